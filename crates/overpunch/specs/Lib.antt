pub mod Number
pub mod Amount
