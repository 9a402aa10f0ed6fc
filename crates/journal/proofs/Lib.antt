pub mod RowLaws
pub mod Stamps
