-- In the order in which one explains them.
pub mod Dying
pub mod Ended
pub mod Sound
pub mod Standing
pub mod Repairs
pub mod Fronts
