pub mod Growth
pub mod Leaves
pub mod Opened
