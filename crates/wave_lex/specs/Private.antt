pub mod Lines
pub mod Runs
pub mod Machines
pub mod Reading
