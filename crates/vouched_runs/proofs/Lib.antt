pub mod Apart
pub mod Leading
pub mod Running
pub mod Further
pub mod Walking
pub mod Rules
pub mod Agreed
pub mod Staying
