pub mod Flat
pub mod Leaves
pub mod NamedFlags
pub mod PartSteps
pub mod PartsOfKinds
pub mod Payloads
pub mod RecordParts
