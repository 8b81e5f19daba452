pub mod Directions
pub mod Following
pub mod Laws
pub mod PointPlaces
pub mod PointSteps
pub mod SideTests
pub mod Survivors
pub mod Sweep
