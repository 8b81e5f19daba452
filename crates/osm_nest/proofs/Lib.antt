mod AnchorLists
pub mod BegunOnce
pub mod BegunPolygons
mod Beside
mod DirectEnclosers
mod Filled
mod FilteredLists
mod Further
mod GroupedRings
mod InPlane
mod Joining
mod KnownEnclosers
mod LeastAnchors
mod LeftEnclosers
mod Leftmost
pub mod Listing
mod LoneRing
mod Merging
mod MultipliedRings
mod Nearest
pub mod NestKit
pub mod NestedCover
mod NestedKinds
pub mod NestedOne
pub mod NestedRings
mod NestingExists
mod OneOuter
mod Parting
mod Places
mod PolygonOfAll
mod Reaches
mod RingAnchors
mod RingEdges
pub mod SortedLists
mod StatusSteps
mod SweptHeights
mod SweptRows
mod TurnedAnchors
mod Turns
pub mod ValidPolygons
mod WholeHeights
