pub mod Chars
pub mod Quoted
pub mod Nodes
pub mod Slices
