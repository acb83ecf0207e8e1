pub mod Ids
pub mod Turning
pub mod Filling
pub mod Rings
pub mod Steps
pub mod Rejections
pub mod CapFormat
