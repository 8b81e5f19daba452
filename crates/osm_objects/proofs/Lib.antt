mod TagLemmas
mod ChoiceLemmas
mod StoreLemmas
mod ApartLemmas
mod FoundLemmas
mod ListedLemmas
mod MergedLemmas
mod RisingLemmas
mod OthersLemmas
mod LookupLemmas
mod NodeLemmas
mod AddLemmas
pub mod ObjectsKit
