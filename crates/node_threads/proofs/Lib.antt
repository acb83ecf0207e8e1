pub mod Conserving
mod Opening
