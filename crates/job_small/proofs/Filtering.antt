pub mod Coastlines
pub mod Written
