pub mod StepWays
pub mod Small
pub mod Scores
pub mod Tunes
pub mod Begins
pub mod Groups
