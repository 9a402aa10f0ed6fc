pub mod JournalRowLaws
pub mod Steps
pub mod Going
pub mod Counting
pub mod Cells
