pub mod RepresentableTypes
pub mod TupleParts
