pub mod Joining
pub mod Running
pub mod Authorizations
pub mod Naming
pub mod LeftWorlds
pub mod AnyAndAll
pub mod LogReading
mod Refusing
pub mod AppendLoops
pub mod Counting
pub mod SomeReason
pub mod Comparing
pub mod Reasoning
pub mod RunTexts
pub mod Commas
pub mod WriterCalls
pub mod Pieces
pub mod LoneNodes
mod Lookups
mod LastReason
mod Pricing
mod Changing
mod Ends
mod CallRows
