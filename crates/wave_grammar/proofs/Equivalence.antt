pub mod LabelSpelling
pub mod ByTree
pub mod LastCommas
pub mod NameOrder
