pub mod Listing
pub mod Products
pub mod Rows
pub mod NextCandidate
pub mod ScoreSteps
pub mod InARow
pub mod CandidateCalls
