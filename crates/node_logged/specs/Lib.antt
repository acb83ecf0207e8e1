-- In the order in which one explains them.
pub mod Setting
pub mod Holding
pub mod SameSettings
pub mod Tills
pub mod TillSeen
pub mod Ledgers
pub mod LedgerSource
pub mod LedgerSeen
pub mod Standing
pub mod StandingSeen
pub mod Marked
pub mod Replayed
pub mod Judged
pub mod Objections
pub mod Causes
pub mod FinishNames
pub mod Verdicts
