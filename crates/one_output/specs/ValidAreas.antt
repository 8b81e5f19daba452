pub mod Exported
pub mod Laws
pub mod Numeral
pub mod Spelled
pub mod ValidArea
