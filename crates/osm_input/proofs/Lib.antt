mod Answered
mod Begun
mod BytesTaken
pub mod InputKit
mod Lines
mod PointLines
mod Prefixes
mod Steps
mod Taking
mod TextAnswered
mod TextTaken
