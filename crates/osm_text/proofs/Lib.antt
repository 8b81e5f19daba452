mod CoastLineExists
mod EscapeLemmas
mod KeptLemmas
mod KeyLaws
mod LeastNodes
mod LineExists
mod LineOne
mod NotationLemmas
mod PhraseLemmas
mod PieceLemmas
mod PropertyLemmas
mod RingRounding
mod RowLemmas
mod StepLemmas
pub mod WholePaths
