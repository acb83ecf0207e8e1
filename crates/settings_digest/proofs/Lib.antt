pub mod Apart
pub mod SaidApart
pub mod Putting
pub mod Keeping
