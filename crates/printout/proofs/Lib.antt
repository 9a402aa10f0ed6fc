pub mod Pages
pub mod Saved
