pub mod Memory
pub mod Represents
pub mod Outcomes
