pub mod Settings
pub mod Bytes
pub mod Ring
pub mod Faults
pub mod Sent
pub mod Steps
