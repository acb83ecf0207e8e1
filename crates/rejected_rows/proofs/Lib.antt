pub mod EachOnce
pub mod Joining
