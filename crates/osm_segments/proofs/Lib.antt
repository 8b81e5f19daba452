mod ConflictKinds
mod ConflictPlaces
pub mod CountLemmas
mod EdgeMeetings
mod EdgeOrders
mod EdgePairs
mod FoundPairs
mod LaterSegments
mod OutlineFaults
mod Parities
mod PlaceOrders
mod RepeatLists
mod RepeatSteps
mod RisingPairs
mod SegmentTests
pub mod SegmentsKit
mod SettledPairs
mod StandOnce
mod StripOrders
mod Sweeps
mod SweptLists
mod SweptParts
mod TiltedEdges
mod ToldPlaces
mod TriedPairs
