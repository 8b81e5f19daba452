pub mod Half
pub mod HalfLaws
pub mod Line
