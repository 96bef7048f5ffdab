pub mod EscapeMarks
pub mod ValueExplained
pub mod CallExplained
pub mod Private
