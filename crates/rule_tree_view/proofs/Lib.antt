pub mod Held
pub mod Lent
pub mod OneLeaf
pub mod Parents
pub mod Sizes
pub mod Viewed
