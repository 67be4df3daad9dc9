pub mod Words
pub mod Inverse
pub mod Zeros
pub mod CallLaws
pub mod Draws
pub mod Lens
