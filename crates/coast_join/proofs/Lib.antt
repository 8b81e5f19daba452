mod Following
mod Inputs
mod Joining
mod NearPairs
mod NearestFirst
pub mod Numbering
mod OneMoreWay
mod OneTaken
mod Sorting
pub mod Stepping
mod NearestSites
mod SiteStretches
mod MutualPairs
mod LocatedRefs
mod MatchedPairs
mod NameOrder
mod Parts
mod ClosedEnds
mod RingNames
mod ChainEnds
mod ChainNames
mod OneChains
mod SomeChains
mod OneJoined
mod SomeJoined
mod ChainWays
mod RingStarts
mod SomeWays
