pub mod Due
pub mod Same
