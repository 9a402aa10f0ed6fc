pub mod StartLaws
pub mod OverParts
pub mod OpeningLaws
pub mod RefusalLaws
pub mod RunLaws
