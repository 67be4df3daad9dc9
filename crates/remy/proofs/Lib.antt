pub mod Halves
pub mod Window
pub mod Partition
pub mod Lens
pub mod Paper
pub mod Ends
pub mod Equality
