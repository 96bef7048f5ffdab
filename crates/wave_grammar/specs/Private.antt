pub mod NumberText
pub mod StringAssembly
pub mod FlatPayloads
