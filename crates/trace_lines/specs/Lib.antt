pub mod Trace
pub mod Parts
pub mod Encoding
