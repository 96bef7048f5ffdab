pub mod Lookup
pub mod Entries
pub mod Reading
pub mod Refused
pub mod LeftOut
pub mod FieldOrder
pub mod EntryOrder
pub mod Names
