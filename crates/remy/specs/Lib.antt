pub mod Cube
pub mod Action
