pub mod Graph
pub mod WellFormed
pub mod Changes
pub mod Edits
pub mod Plans
pub mod Questions
pub mod Same
pub mod Limits
