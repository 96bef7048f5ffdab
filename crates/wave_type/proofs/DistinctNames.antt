pub mod LabelTest
pub mod WithinTypes
pub mod FirstPlaces
pub mod CountedPlaces
pub mod FoundPlaces
