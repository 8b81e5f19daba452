pub mod Beside
pub mod BesideLaws
pub mod ConnectedLaws
pub mod Inside
pub mod Line
pub mod LineLaws
pub mod Near
