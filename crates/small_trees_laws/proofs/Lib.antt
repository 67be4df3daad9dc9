pub mod Trees
pub mod Loader
