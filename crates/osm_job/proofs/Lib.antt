mod BothRead
pub mod BothThenOutput
mod InputLacks
mod InputRead
pub mod JobKit
pub mod InputThenOutput
pub mod Keeping
mod OnceRead
pub mod OutputAlone
pub mod Prefixes
mod SilentReads
pub mod Sparing
pub mod Taken
mod TextRead
pub mod TextWritten
pub mod Weaker
mod Wholes
pub mod Writes
