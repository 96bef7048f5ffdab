pub mod Sound
pub mod Complete
pub mod Prefixes
pub mod Lenient
pub mod RefusedKinds
