pub mod Within
pub mod Tested
