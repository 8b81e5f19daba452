pub mod Numbers
pub mod Objects
pub mod Input
pub mod Laws
