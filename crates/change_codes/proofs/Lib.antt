pub mod Codes
pub mod Meanings
