pub mod LeafReading
pub mod ReadErrors
