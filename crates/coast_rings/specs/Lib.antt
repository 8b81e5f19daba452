pub mod Corners
pub mod Line
pub mod Round
