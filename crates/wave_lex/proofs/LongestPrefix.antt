pub mod MachineWalks
pub mod LongestSoFar
pub mod ByComputing
