pub mod Places
pub mod Shown
pub mod Paths
pub mod Private
