pub mod Seen
pub mod Blocks
pub mod Packed
pub mod Compact
pub mod Held
pub mod Places
