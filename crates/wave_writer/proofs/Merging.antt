pub mod DistinctKeys
pub mod Congruence
pub mod EntryByEntry
pub mod EntryPlaces
