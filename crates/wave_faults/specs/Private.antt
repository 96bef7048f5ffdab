pub mod Told
pub mod LeafAnswers
pub mod FlagFaults
pub mod RecordFaults
