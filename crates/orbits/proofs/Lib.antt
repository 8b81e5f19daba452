pub mod Closed
mod CutSteps
pub mod Exists
pub mod Finding
pub mod Marking
pub mod Members
mod PassSteps
pub mod Reading
pub mod Sums
pub mod Unique
pub mod Walks
