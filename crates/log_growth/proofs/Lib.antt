mod Counts
mod NodesGrown
mod TableRows
mod PaidRows
mod RoutesGrown
mod RejectedRows
mod Among
mod GrownTo
mod Moved
mod Staying
mod MadeOver
pub mod Rejecting
