pub mod Laws
pub mod Outside
pub mod StreamHost
pub mod Streams
