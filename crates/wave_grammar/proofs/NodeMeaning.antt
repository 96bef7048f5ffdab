pub mod AsTokens
pub mod Keys
pub mod Flags
pub mod FlagOrder
