-- In the order in which one explains them.
pub mod Deeds
pub mod Noting
pub mod Plans
pub mod Deaths
pub mod Mending
pub mod Undamaged
pub mod Repairing
pub mod Writing
pub mod Front
