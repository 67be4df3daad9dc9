pub mod Ways
pub mod Trees
pub mod Records
pub mod Trainers
pub mod Senders
pub mod Acks
pub mod SmallTrees
pub mod EvenRows
