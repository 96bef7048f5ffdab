pub mod Moves
pub mod Prefixes
pub mod CallPrefixes
