pub mod NumberEscapes
pub mod PlainBytes
pub mod StringRuns
