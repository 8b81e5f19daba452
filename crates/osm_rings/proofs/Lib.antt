mod ApartEdges
mod Clockwise
mod ClosedWalks
mod DeparturesRound
mod EdgeDirs
pub mod EdgeEquality
pub mod ExactRings
mod FirstMets
pub mod LeastStarts
mod Multiplied
mod OrbitWalks
mod PackedEdges
mod Placed
mod PieceSteps
mod PlaneNumbers
pub mod PlaneRings
mod RankOrder
mod RingListLifts
mod RingLists
mod SharedNodes
mod SortedRounds
mod Starts
mod Succeed
mod TurnedFrom
pub mod TurnedRings
pub mod UncrossedRings
mod WalkCuts
mod WalkSteps
mod WalkedRings
pub mod Whole
