pub mod Derivatives
pub mod Comparisons
pub mod LabelWords
