pub mod Objects
pub mod Checking
pub mod Agreement
