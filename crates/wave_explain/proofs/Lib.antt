pub mod Reported
pub mod Expecting
pub mod Escapes
