-- In the order in which one explains them.
pub mod Becoming
pub mod Hints
pub mod Rejecting
pub mod Texts
pub mod Telling
pub mod Judging
pub mod Faults
pub mod Noting
