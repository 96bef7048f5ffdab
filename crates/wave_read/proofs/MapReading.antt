pub mod Entries
pub mod EntrySteps
pub mod KeyedChildren
