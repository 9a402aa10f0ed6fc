pub mod Least
pub mod Words
pub mod RowLaws
pub mod Closing
pub mod Examples
