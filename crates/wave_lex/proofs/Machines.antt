pub mod ClosedShapes
pub mod Counted
pub mod Rows
pub mod Steps
