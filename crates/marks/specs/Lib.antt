pub mod Marked
pub mod Named
pub mod Codes
