-- In the order in which one explains them.
pub mod Rerouted
pub mod Pharmacies
pub mod Switches
pub mod Payers
pub mod Opening
pub mod Replayed
pub mod Turns
pub mod Own
pub mod Running
pub mod Growing
pub mod Sharp
pub mod Vain
