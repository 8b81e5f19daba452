pub mod Endings
pub mod Exported
