pub mod AskedRuns
pub mod Words
pub mod Places
pub mod Turns
pub mod Tills
pub mod Looks
pub mod Endings
pub mod CutOff
