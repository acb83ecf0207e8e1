pub mod Places
pub mod Texts
pub mod Writes
pub mod SignedTexts
pub mod OwnNumbers
pub mod OwnAmounts
pub mod OnlyShortest
