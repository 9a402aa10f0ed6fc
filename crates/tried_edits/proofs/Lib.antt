pub mod Tries
pub mod Removed
pub mod PlanLaws
