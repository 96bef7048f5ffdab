pub mod Values
pub mod VariantsFlagsMaps
pub mod Records
