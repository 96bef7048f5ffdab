pub mod EachTold
pub mod Walk
