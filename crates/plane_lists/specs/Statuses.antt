pub mod Fronts
pub mod Leaving
pub mod Status
pub mod StatusLaws
