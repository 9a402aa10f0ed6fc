pub mod Altering
