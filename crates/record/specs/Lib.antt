pub mod Layout
pub mod Write
pub mod Read
pub mod Calls
pub mod Parts
pub mod Accepted
