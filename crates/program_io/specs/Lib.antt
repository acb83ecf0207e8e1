pub mod Stops
pub mod Serving
pub mod Scheduled
