pub mod FirstFaults
pub mod OneBlame
pub mod StringFaults
pub mod FaultyTrees
pub mod FirstOfSeveral
