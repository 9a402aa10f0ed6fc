pub mod Inputs
pub mod Appended
pub mod Front
