pub mod SaidLines
mod Begun
pub mod RunLines
