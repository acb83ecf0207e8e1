-- In the order in which one explains them.
pub mod Following
pub mod Each
pub mod Dying
