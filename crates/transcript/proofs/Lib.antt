pub mod Replies
pub mod Inputs
pub mod Resumes
