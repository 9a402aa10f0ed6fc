pub mod Refusals
pub mod Opening
pub mod Saving
pub mod Outcomes
