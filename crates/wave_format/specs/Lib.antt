-- The words of this crate's contracts.
pub mod Words
pub mod Layout
pub mod Private
