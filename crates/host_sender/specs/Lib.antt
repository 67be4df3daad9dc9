pub mod Layout
pub mod Events
pub mod Parts
pub mod Values
