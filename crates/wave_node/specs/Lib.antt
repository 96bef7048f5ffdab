pub mod Private
pub mod FlagNodes
pub mod KeywordNodes
pub mod NodeEncoding
