pub mod Bytes
pub mod Fields
