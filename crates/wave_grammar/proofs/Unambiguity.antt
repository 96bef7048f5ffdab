pub mod Values
pub mod RestIndependence
pub mod OneReading
pub mod Trees
pub mod Levels
