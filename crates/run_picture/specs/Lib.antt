-- In the order in which one explains them.
pub mod Marks
pub mod Seen
pub mod Marking
pub mod Counts
pub mod Drawn
pub mod Stops
