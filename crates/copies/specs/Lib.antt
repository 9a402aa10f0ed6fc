pub mod Copies
pub mod Recording
