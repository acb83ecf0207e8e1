-- In the order in which one explains them.
pub mod InboxMail
pub mod InboxPlaces
pub mod InboxRule
pub mod Treating
pub mod TreatingSeen
pub mod Telling
pub mod Halls
