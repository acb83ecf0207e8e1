pub mod Asked
pub mod Places
pub mod Told
pub mod Hearing
pub mod Output
