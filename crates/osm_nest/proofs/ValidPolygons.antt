pub mod BegunElsewhere
pub mod Flattened
pub mod NestedValid
pub mod WholePolygons
