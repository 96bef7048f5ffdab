pub mod Sequences
pub mod ValueParts
