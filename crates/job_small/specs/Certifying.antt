pub mod Certify
pub mod Exported
pub mod Laws
