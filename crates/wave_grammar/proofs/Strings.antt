pub mod Chars
pub mod Assembly
pub mod OneRun
