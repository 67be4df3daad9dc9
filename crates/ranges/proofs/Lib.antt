pub mod Axis
pub mod LeafWays
pub mod Passing
pub mod Listing
pub mod CubeWays
pub mod Calls
pub mod Lens
