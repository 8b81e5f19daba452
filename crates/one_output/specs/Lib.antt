pub mod Laws
pub mod OneCoast
pub mod Right
pub mod RoundedPieces
pub mod ValidAreas
