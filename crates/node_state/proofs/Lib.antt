pub mod Stepping
pub mod Openings
pub mod Known
pub mod AtRest
pub mod Idle
