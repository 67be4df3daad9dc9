pub mod Numbers
pub mod Guards
