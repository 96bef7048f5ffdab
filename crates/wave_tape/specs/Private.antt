pub mod Kinds
pub mod Readers
pub mod Rows
pub mod TextWriters
pub mod Writers
