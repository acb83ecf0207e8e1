pub mod Checking
pub mod Identities
