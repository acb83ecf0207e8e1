-- In the order in which one explains them.
pub mod Naming
pub mod Order
pub mod Line
pub mod LineSeen
pub mod SamePacket
pub mod PacketNumbers
pub mod Orders
pub mod Found
pub mod Merged
pub mod MergedRuns
