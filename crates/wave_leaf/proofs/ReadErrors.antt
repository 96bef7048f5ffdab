pub mod HandedOn
pub mod ByParts
