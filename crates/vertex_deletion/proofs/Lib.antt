pub mod Rows
pub mod Costs
pub mod Deleting
