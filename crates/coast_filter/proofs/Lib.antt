mod Apart
mod Kept
mod Lookups
mod Naming
mod OneMore
mod Part
mod SameCoast
mod Told
