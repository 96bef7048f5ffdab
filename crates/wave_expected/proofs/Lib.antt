pub mod ExpectedTokens
