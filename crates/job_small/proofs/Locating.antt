pub mod Located
pub mod OneLocate
