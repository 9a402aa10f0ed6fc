pub mod ListWalks
pub mod Walkable
pub mod DistinctSums
pub mod Counts
pub mod Degrees
pub mod ByHand
