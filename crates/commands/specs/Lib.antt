pub mod Calls
pub mod Kinds
pub mod Tables
pub mod Commands
pub mod Answers
pub mod Fits
pub mod Refusals
