pub mod Carriers
pub mod Commons
pub mod Directions
pub mod Lines
pub mod Multiples
pub mod MultipliedEdges
pub mod MultipliedPoints
