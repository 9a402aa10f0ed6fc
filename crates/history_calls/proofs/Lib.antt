pub mod Following
pub mod Calls
pub mod Present
pub mod OutcomeLaws
pub mod Ways
