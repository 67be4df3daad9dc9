pub mod Writing
pub mod Running
pub mod NewWays
pub mod EventWays
pub mod Whole
