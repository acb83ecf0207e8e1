pub mod Walking
pub mod LooseValues
pub mod PartValues
pub mod Crosses
pub mod Lines
pub mod Pieces
pub mod Rooms
pub mod Marks
pub mod Hostings
pub mod InOrder
pub mod OfFiles
mod Judging
