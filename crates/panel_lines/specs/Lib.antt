pub mod Shares
pub mod Panel
pub mod Parts
