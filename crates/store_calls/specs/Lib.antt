pub mod Parts
pub mod Guard
pub mod Serving
