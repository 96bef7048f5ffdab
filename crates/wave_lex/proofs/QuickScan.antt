pub mod Prefixes
pub mod ByteRuns
pub mod EscapeRuns
pub mod WordRuns
