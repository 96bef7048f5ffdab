pub mod BareTree
pub mod Joins
pub mod Refusals
pub mod Settings
