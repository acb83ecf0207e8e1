-- In the order in which one explains them.
pub mod Parts
pub mod Asked
pub mod NodeLists
pub mod Known
pub mod Calling
pub mod Room
pub mod Stepping
pub mod Opening
pub mod RowViews
pub mod Reading
pub mod Headline
