pub mod Members
pub mod Seen
pub mod Quoting
pub mod Values
pub mod Rows
pub mod Adding
pub mod ReadBack
pub mod JsonBack
