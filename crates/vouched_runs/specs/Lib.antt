-- In the order in which one explains them.
pub mod Parties
pub mod Vouched
pub mod Days
pub mod Agreeing
