pub mod Readers
pub mod Stops
pub mod Writers
