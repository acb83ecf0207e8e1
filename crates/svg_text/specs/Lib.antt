pub mod Escaping
pub mod Styles
pub mod Numbers
pub mod Pieces
pub mod Picture
pub mod Framing
