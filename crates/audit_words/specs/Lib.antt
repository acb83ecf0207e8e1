pub mod Choosing
pub mod Found
pub mod Reports
pub mod Logs
pub mod Asked
