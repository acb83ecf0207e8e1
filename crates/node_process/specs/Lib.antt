-- In the order in which one explains them.
pub mod Acts
pub mod Noting
pub mod Heard
pub mod Safe
pub mod Ends
pub mod Histories
pub mod Joined
