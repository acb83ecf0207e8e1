pub mod Texts
pub mod Judged
pub mod PlainFields
pub mod Making
pub mod ReadBack
