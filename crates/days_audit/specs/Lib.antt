-- In the order in which one explains them.
pub mod Begun
pub mod Lines
pub mod Calls
pub mod Orders
pub mod Agreeing
pub mod Telling
pub mod Promised
