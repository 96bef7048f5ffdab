pub mod Writing
pub mod Brackets
pub mod Sheets
pub mod Laying
