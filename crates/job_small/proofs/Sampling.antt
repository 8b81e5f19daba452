pub mod Counting
pub mod SampleWrites
