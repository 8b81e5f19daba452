pub mod Member
pub mod Once
pub mod Rising
pub mod Rotated
pub mod Tallied
