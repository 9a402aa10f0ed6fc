pub mod Orders
pub mod Scratch
pub mod Reach
