pub mod Areas
pub mod FirstWrong
pub mod Laws
pub mod Lines
pub mod RightTexts
pub mod Telling
