-- Of `read`, and then of `replay`.
pub mod Entries
pub mod Sample
pub mod Lines
pub mod Said
pub mod Events
pub mod Replays
