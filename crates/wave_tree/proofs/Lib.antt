pub mod ParserCorrectness
pub mod ErrorSpans
pub mod NodeCorrectness
pub mod TextReading
pub mod Displays
