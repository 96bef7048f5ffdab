pub mod Syntax
pub mod Trailing
