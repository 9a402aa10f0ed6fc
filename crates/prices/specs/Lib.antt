pub mod Grades
pub mod Prices
