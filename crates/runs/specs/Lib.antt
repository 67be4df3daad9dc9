pub mod SenderWords
pub mod Script
pub mod Compared
pub mod Ran
pub mod Writing
pub mod Turn
