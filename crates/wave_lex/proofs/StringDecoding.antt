pub mod OneMeaning
pub mod Faults
pub mod Parts
pub mod EscapesFound
