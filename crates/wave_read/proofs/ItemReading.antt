pub mod Lists
pub mod Tuples
pub mod TupleCounts
