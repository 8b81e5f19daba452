pub mod Blocks
pub mod Parted
pub mod Starts
