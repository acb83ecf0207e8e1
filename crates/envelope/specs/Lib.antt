pub mod Txn
pub mod Envelope
pub mod Opening
