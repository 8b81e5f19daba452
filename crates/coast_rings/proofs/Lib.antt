mod Lines
mod RingFields
pub mod RingsKit
mod Rounding
