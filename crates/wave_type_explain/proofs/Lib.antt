pub mod TextBegins
pub mod Tried
pub mod Said
