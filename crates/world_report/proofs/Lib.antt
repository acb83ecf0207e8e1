pub mod JoinedWords
pub mod Payments
pub mod NextDigits
pub mod Loops
pub mod Joining
pub mod Blocks
pub mod Lines
