pub mod Job
pub mod LastLine
pub mod Run
pub mod RunSteps
pub mod Status
pub mod Whole
