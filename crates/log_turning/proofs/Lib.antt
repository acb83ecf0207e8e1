pub mod Lines
pub mod Closing
pub mod Unturned
pub mod GoingOn
pub mod Parts
pub mod Compared
pub mod FilesBack
mod Older
