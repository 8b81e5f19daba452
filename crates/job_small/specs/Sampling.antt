pub mod Sample
pub mod Steps
pub mod Summary
pub mod SummaryLines
pub mod WorkSteps
