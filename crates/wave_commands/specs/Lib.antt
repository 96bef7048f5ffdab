pub mod Names
pub mod Reports
pub mod Checked
pub mod Formatted
