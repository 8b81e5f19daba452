pub mod Laws
pub mod Lines
pub mod Locate
pub mod WorkSteps
