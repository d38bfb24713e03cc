pub mod Words
pub mod Report
pub mod ToldLines
pub mod Pieces
pub mod Shapes
pub mod ReadBack
pub mod Legible
