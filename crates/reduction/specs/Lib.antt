pub mod Reduction
pub mod Trials
pub mod Outcomes
pub mod Refused
