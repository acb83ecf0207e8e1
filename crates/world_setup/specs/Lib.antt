pub mod Seen
pub mod Taken
pub mod Identities
