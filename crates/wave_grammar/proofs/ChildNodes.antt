pub mod Trees
pub mod Inside
pub mod Cases
pub mod Entries
pub mod Parts
