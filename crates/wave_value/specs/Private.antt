pub mod ValueEncoding
pub mod ValueModel
pub mod ValueDepth
pub mod ConstructorRules
pub mod RecordConstructor
pub mod CaseRules
pub mod ContentEquality
