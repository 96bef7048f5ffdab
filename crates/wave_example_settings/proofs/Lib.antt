pub mod EachOnce
pub mod HandedOn
pub mod JoinCalls
pub mod Lawful
pub mod WidthFields
pub mod Widths
