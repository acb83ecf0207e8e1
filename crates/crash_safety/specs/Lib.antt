-- In the order in which one explains them.
pub mod Network
pub mod Runs
pub mod Kept
pub mod Steps
pub mod Fenced
pub mod Diskless
pub mod Explained
pub mod Told
pub mod Greedy
pub mod Story
pub mod Explains
pub mod Handing
pub mod Growing
