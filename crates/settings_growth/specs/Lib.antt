-- In the order in which one explains them.
pub mod Growth
pub mod Rows
pub mod Orders
pub mod GoingOver
pub mod Ticks
