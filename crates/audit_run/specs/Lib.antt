pub mod Completing
pub mod Judged
pub mod NoVerdict
pub mod Putting
