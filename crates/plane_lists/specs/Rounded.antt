pub mod Clear
pub mod ClearLaws
pub mod FactorLaws
pub mod MovedLaws
pub mod RoundedEdges
pub mod RoundedLaws
pub mod Square
pub mod Steps
