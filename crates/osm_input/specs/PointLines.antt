pub mod Errors
pub mod Laws
pub mod LineSteps
pub mod Lines
pub mod Points
