pub mod JournalRows
pub mod Steps
pub mod Current
