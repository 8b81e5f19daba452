pub mod Areas
pub mod Envelopes
pub mod Hits
pub mod Index
pub mod Laws
pub mod Within
