pub mod Checks
pub mod FirstBad
pub mod Scratch
