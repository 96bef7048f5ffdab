pub mod WriterState
pub mod Values
