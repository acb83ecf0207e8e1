-- In the order in which one explains them.
pub mod Keys
pub mod Strings
pub mod Rows
