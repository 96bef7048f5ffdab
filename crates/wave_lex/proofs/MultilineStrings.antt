pub mod FirstThreeQuotes
pub mod QuotesFound
pub mod Lines
pub mod JoinedLines
