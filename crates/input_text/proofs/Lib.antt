mod Lanes
mod Places
mod Reading
mod RoundTrip
pub mod Splitting
pub mod Joining
mod Runs
