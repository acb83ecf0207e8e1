-- In the order in which one explains them.
pub mod Steps
pub mod Deeds
pub mod Plans
pub mod Deaths
