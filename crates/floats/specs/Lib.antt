pub mod Interval
pub mod Average
