pub mod FieldByName
pub mod MainTheorem
