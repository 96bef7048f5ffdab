pub mod Private
pub mod RustValues
