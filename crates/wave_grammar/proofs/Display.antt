pub mod Tokens
pub mod Flags
pub mod Trees
pub mod Items
pub mod Tidy
pub mod Reading
pub mod Meaning
pub mod Calls
