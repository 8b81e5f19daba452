pub mod Certifying
pub mod Filtering
pub mod Locating
pub mod Sampling
