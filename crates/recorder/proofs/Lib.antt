pub mod MoveLaws
pub mod CoverLaws
pub mod ListLaws
pub mod OutcomeLaws
pub mod Agreement
