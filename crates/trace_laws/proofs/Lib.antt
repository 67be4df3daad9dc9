pub mod Joined
pub mod Lines
pub mod Traced
pub mod Staying
