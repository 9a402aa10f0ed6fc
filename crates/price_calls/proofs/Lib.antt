pub mod Counted
pub mod Passes
pub mod Heard
pub mod BothWays
pub mod PricedLaws
