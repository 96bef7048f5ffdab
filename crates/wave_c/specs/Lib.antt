pub mod Kinds
pub mod Failures
pub mod Answers
pub mod Ends
