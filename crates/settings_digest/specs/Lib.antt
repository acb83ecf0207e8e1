-- In the order in which one explains them.
pub mod Said
pub mod Fits
pub mod Digests
