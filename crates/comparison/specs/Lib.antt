pub mod Comparison
pub mod Walks
