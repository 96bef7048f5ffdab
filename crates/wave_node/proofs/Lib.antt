pub mod ParserCorrectness
pub mod NodeReading
