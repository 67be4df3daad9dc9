pub mod Records
pub mod Questions
pub mod Lookups
pub mod Parts
pub mod Runs
pub mod Undone
pub mod Changed
