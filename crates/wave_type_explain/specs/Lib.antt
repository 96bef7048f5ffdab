pub mod Private
pub mod Expected
pub mod TypeExplained
