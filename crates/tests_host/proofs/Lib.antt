pub mod NameLemmas
pub mod OpenLemmas
