-- In the order in which one explains them.
pub mod ExistingNodes
pub mod LogSeen
pub mod Fits
pub mod Misfits
pub mod Replayed
