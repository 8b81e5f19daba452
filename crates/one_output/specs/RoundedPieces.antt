pub mod Cover
pub mod Laws
pub mod Near
pub mod Printed
pub mod Tiles
