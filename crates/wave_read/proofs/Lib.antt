pub mod ItemReading
pub mod PayloadReading
pub mod PartByPart
pub mod LeafReading
pub mod ReadErrors
pub mod FlagReading
pub mod MapReading
pub mod RecordReading
