pub mod Requests
pub mod Answers
pub mod Inhabited
pub mod InputLines
pub mod ByLines
