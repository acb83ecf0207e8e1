pub mod Options
pub mod Decimals
pub mod Lines
pub mod Printing
pub mod Unprinting
pub mod Words
