pub mod DirectionLaws
pub mod EdgeLaws
pub mod Multiple
pub mod OneDirection
pub mod PointLaws
pub mod Sided
pub mod SidedLaws
