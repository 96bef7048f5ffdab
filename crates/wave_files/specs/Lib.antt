pub mod Counts
pub mod Written
pub mod Options
pub mod Folders
pub mod Answers
pub mod Json
