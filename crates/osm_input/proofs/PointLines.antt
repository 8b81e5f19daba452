pub mod FirstBad
pub mod Places
pub mod ReadLines
pub mod Words
