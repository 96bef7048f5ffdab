pub mod AllFaults
pub mod FaultsOfText
pub mod FaultsLaws
pub mod Private
