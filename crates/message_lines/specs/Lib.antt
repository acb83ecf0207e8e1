pub mod Answers
pub mod Input
pub mod Lines
pub mod MadeMessage
pub mod Refused
