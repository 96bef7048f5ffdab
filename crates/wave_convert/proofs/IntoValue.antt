pub mod Items
pub mod TupleParts
pub mod OutOfMemoryAlone
