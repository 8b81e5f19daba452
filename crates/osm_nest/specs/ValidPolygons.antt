pub mod AreValid
pub mod Laws
