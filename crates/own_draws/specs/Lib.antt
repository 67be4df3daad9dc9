pub mod OwnDraws
pub mod OwnRuns
