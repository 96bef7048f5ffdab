pub mod RefusedForms
pub mod Enums
