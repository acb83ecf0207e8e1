-- In the order in which one explains them.
pub mod Calls
pub mod NodeLogs
pub mod Placed
pub mod Recorded
pub mod Runs
pub mod Files
