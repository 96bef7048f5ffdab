pub mod Faults
pub mod Nodes
