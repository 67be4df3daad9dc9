pub mod Averages
pub mod Verdict
pub mod History
pub mod Repeats
pub mod AckNumbers
pub mod AckEvents
pub mod Bursts
pub mod BurstLaws
