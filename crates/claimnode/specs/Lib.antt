-- In the order in which one explains them.
pub mod Words
pub mod Checked
pub mod Files
pub mod Taken
pub mod Served
