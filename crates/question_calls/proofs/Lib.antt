pub mod AnswerLaws
pub mod Rows
