pub mod Coordinates
pub mod Decimal
pub mod Kept
pub mod Written
