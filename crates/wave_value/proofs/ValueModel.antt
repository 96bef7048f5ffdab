pub mod ContentMeaning
pub mod Lists
pub mod Depths
pub mod ContentEquality
pub mod LeafEquality
