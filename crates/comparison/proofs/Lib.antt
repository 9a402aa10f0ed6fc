pub mod PairLaws
pub mod Turns
pub mod Notes
pub mod Outcomes
pub mod Examples
pub mod Mapped
