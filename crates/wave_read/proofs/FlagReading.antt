pub mod ByNames
pub mod PlacedNames
