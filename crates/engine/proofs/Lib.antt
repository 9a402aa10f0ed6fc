pub mod RefusalLaws
pub mod CallLaws
pub mod RunLaws
pub mod Demand
pub mod StepLaws
