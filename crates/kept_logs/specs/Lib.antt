-- In the order in which one explains them.
pub mod Faults
pub mod Fields
pub mod Calls
pub mod Records
pub mod Stamps
pub mod Frames
pub mod Digests
pub mod Logs
pub mod References
pub mod Making
pub mod Appending
pub mod Fits
pub mod Cuts
pub mod MetSeen
pub mod LogSeen
pub mod Rests
pub mod RestSeen
