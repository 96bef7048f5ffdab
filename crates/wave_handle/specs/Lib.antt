pub mod TypeHandle
pub mod FuncTypeHandle
pub mod Private
