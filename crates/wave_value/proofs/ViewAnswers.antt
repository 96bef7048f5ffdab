pub mod Parts
pub mod Records
