mod Certifying
mod Filtering
mod Locating
pub mod Sampling
