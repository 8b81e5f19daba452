mod ApartSegments
mod ClearAtOnce
mod CommonPoints
mod ConflictCases
mod CrossingMeets
mod Crossings
mod Divisors
mod Exact
mod Factors
mod Fractions
mod Halves
pub mod LatticeKit
pub mod LocationOrder
mod LowestTerms
mod MeetingBounds
mod MeetingPoint
pub mod Orders
mod OverlapPoints
mod Overlaps
mod PointsOnEdges
mod Rounding
mod SegmentsBetween
mod SharedEnds
mod Shares
mod Sizes
mod ToldByPoints
