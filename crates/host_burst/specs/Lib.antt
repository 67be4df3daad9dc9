pub mod Bursts
pub mod Parts
