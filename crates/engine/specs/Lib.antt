pub mod Running
pub mod Refusals
pub mod Calls
pub mod Outcomes
