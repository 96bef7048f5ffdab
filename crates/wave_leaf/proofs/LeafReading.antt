pub mod LabelKeys
pub mod BetweenQuotes
pub mod SimpleTypes
pub mod ReadAtOnce
pub mod Strings
pub mod PlainTypes
