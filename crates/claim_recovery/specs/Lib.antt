-- In the order in which one explains them.
pub mod Help
pub mod Recovered
pub mod Quiet
pub mod Turn
pub mod Room
pub mod Everyone
