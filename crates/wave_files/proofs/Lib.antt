pub mod Moved
pub mod TakenOut
pub mod Outputs
pub mod Entries
