pub mod Laws
pub mod RingListOf
pub mod Sees
