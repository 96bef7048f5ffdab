pub mod Mapping
pub mod Reading
pub mod Errors
pub mod Decoding
pub mod Laws
pub mod Private
