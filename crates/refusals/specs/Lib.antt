pub mod Told
pub mod Order
pub mod Gives
