pub mod Parts
pub mod CallsIn
pub mod GuardLaws
pub mod StretchLaws
pub mod ServingLaws
