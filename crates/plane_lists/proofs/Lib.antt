mod Connected
pub mod ConnectedKit
mod Halves
pub mod HalvingKit
mod Lists
pub mod NestingKit
mod OneRingList
pub mod OneRingListKit
mod Paths
pub mod PathsKit
mod Rings
mod Rounded
pub mod RoundedKit
pub mod StatusKit
mod Statuses
mod Valid
pub mod ValidKit
pub mod WindingKit
