-- In the order in which one explains them.
pub mod Turned
pub mod Unturned
pub mod Joined
pub mod Unjoined
pub mod Left
pub mod Files
pub mod Whole
