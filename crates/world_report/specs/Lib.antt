-- In the order in which one explains them.
pub mod Words
pub mod Adding
pub mod Rulings
pub mod Places
pub mod BookRows
pub mod Heads
pub mod Nodes
pub mod Events
