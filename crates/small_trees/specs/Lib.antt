pub mod Lists
pub mod Calls
pub mod Order
pub mod Held
