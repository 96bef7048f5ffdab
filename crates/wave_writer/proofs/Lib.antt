pub mod Merging
pub mod TypesOfValues
pub mod CanonicalText
pub mod Escapes
