pub mod Agreeing
pub mod Occurrences
pub mod Merging
pub mod Carrying
pub mod Repeating
