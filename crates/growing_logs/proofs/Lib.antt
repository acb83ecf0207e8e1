pub mod Joining
pub mod Stepping
