pub mod Digits
pub mod MarkLaws
pub mod NameLaws
pub mod CodeLaws
