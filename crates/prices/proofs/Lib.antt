pub mod GradeLaws
pub mod Ranges
pub mod Symmetry
pub mod Last
