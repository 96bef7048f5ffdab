pub mod Faults
pub mod Fields
pub mod FieldSteps
pub mod FinishedRecords
