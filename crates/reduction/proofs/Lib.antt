pub mod ReductionLaws
pub mod FewRuns
pub mod ListLaws
pub mod TrialLaws
pub mod OutcomeLaws
