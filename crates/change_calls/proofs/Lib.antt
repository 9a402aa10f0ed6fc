pub mod SingleStep
pub mod Attempting
pub mod Following
