pub mod Faults
pub mod Private
pub mod Errors
pub mod Keys
pub mod Leaves
pub mod PlainReading
pub mod Reading
pub mod FaultCauses
