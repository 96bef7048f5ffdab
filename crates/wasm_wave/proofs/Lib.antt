mod FieldByName
pub mod MainTheorem
pub mod OneExplanation
