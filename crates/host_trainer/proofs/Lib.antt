pub mod RecordWays
pub mod QuestionWays
pub mod LookupWays
pub mod Runs
pub mod UndoLaws
