pub mod Ends
pub mod Sound
pub mod Built
