pub mod TypeTrees
pub mod TypeTexts
pub mod DistinctNames
pub mod TypeReading
pub mod TypeFaults
