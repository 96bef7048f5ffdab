pub mod Children
pub mod BuilderAnswers
pub mod Records
pub mod FaultOrder
pub mod FlagPlaces
pub mod LeafAnswers
