pub mod Putting
pub mod SenderPuts
pub mod Reading
pub mod Filling
pub mod Turning
pub mod Looping
pub mod WordsFit
pub mod Agrees
