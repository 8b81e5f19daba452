pub mod Exports
pub mod Features
pub mod Numerals
pub mod OneReading
pub mod Printed
pub mod ValidAreas
