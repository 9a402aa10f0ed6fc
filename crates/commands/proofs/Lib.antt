pub mod Fitting
pub mod Unnamed
pub mod ByKind
