pub mod NameTests
pub mod NameSets
pub mod Subsequences
pub mod MappedSearch
