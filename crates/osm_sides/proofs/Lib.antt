mod Counts
pub mod DirectedSides
mod DirectionLists
mod Ends
mod Followers
mod LevelCounts
mod LevelParts
mod OddSideCounts
mod PassedPoints
mod RisingSweeps
pub mod PlaneEdges
mod Pushes
mod SegmentTests
pub mod SidesKit
mod StatusEdges
mod Statuses
mod Survivors
mod SweptHeights
mod WholeSegments
