pub mod Injective
pub mod Prefixes
pub mod ReadBack
pub mod FunctionReadBack
pub mod Tokenizes
pub mod JoinedTexts
pub mod FunctionParts
