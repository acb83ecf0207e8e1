pub mod Nodes
pub mod Switches
pub mod Events
pub mod Reading
pub mod Commands
pub mod Faults
pub mod Runs
pub mod Division
