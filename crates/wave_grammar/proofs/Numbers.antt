pub mod Digits
pub mod Narrow
