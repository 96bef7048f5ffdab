pub mod Private
pub mod WriterErrors
pub mod WriterState
