pub mod Transcript
pub mod Continued
