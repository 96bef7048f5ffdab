pub mod Nodes
pub mod Meaning
