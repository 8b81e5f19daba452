pub mod AcrossPolygons
pub mod Earlier
pub mod LinkedEdges
pub mod LinkedPolygons
pub mod NextLeft
pub mod OddEdges
pub mod OneOuterRing
pub mod WholeWalks
