pub mod Prices
pub mod Pricing
pub mod Searching
pub mod Terms
