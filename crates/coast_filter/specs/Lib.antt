pub mod CoastPart
pub mod ByIds
pub mod Laws
