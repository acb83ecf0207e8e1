-- In the order in which one explains them.
pub mod Compared
pub mod Over
pub mod Grown
pub mod OlderLogs
pub mod Rejected
