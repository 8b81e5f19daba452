pub mod Bools
mod CancelSteps
pub mod Contained
pub mod Counts
mod Deduped
pub mod EachOnce
pub mod Insertions
pub mod Integers
pub mod Items
pub mod ListsKit
pub mod Maps
pub mod Members
pub mod Numbers
pub mod Options
pub mod Orderings
pub mod PickedItems
pub mod Picks
pub mod RisingLists
pub mod Rotations
mod Searches
pub mod Splits
pub mod Sums
mod TallySteps
