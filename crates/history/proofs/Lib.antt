pub mod Timelines
pub mod Seeking
pub mod Benches
