pub mod Options
pub mod Lists
pub mod Sents
pub mod Opens
pub mod Fitting
pub mod Breaking
