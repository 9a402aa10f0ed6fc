pub mod Tried
pub mod Plans
