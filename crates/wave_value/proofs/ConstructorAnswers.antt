pub mod ListsAndEnums
pub mod VariantsAndFlags
pub mod Flags
pub mod Maps
pub mod Records
pub mod Results
pub mod Tuples
pub mod OutOfMemory
