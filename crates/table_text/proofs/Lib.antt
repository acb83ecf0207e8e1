pub mod Separating
pub mod ReadBack
pub mod JsonBack
