pub mod Making
pub mod Counting
