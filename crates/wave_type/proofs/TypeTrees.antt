pub mod RepresentableParts
pub mod Lists
pub mod Conversion
pub mod Equality
pub mod Sizes
