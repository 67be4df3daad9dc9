pub mod Ranges
pub mod Cubes
pub mod Reached
