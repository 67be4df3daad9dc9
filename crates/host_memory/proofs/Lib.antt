pub mod Within
pub mod Tested
pub mod Laws
