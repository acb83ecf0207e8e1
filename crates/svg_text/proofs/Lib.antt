pub mod Joining
pub mod Markup
