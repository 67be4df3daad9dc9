pub mod Xoshiro
pub mod Calls
