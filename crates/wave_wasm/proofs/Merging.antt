pub mod LastValues
pub mod DistinctTexts
pub mod KeyTexts
