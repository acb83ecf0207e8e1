pub mod EventLists
mod Plain
mod Fronts
mod Commas
mod RunLists
pub mod Names
