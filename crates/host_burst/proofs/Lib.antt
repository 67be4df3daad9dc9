pub mod Gathering
pub mod Writing
pub mod Lengths
pub mod Giving
pub mod BurstLaws
