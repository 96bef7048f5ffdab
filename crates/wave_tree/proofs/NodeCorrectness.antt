pub mod Tokens
pub mod Lists
pub mod Braces
pub mod Flags
pub mod Items
pub mod TokenAlignment
