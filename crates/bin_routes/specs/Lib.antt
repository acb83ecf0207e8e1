pub mod Payer
pub mod Key
pub mod Providers
pub mod Row
pub mod Fault
pub mod Table
