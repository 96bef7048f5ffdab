pub mod TypeOfKind
pub mod WellFormed
