pub mod Reading
pub mod Writing
pub mod Scan
pub mod ImageLine
