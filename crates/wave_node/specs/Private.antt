pub mod NodeForms
pub mod NodeDepth
