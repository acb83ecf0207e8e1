pub mod NodeLogs
pub mod Recording
mod Refusing
