pub mod Lawful
pub mod ValueModel
pub mod ConstructorAnswers
pub mod TypedParts
pub mod ViewAnswers
