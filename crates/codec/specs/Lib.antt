-- In the order in which one explains them.
pub mod Options
pub mod Fields
pub mod Codecs
pub mod Laws
