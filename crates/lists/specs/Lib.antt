pub mod Choice
pub mod Lists
pub mod Keyed
pub mod Slices
pub mod Arranged
