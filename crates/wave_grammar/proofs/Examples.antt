pub mod Readings
pub mod Refusals
pub mod Faults
pub mod Nodes
