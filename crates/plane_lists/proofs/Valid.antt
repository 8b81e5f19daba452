pub mod Crescents
pub mod Holes
pub mod Meets
pub mod RingParts
pub mod SharedNodes
pub mod ValidPolygons
pub mod Windings
