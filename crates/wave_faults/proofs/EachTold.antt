pub mod Lists
pub mod Combined
pub mod Entries
pub mod Table
pub mod Spelled
pub mod Values
