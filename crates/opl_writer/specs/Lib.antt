pub mod ReadBack
pub mod Rows
pub mod Writable
pub mod Written
