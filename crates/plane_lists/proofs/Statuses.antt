pub mod Fronts
pub mod Leaving
pub mod Lists
pub mod Statuses
