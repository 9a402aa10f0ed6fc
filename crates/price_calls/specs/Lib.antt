pub mod Ways
pub mod PriceLists
