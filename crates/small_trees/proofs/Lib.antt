pub mod Tables
pub mod Growing
pub mod Ways
pub mod Lists
