pub mod Bounds
pub mod Costs
pub mod Fits
pub mod Profiles
pub mod Replacing
pub mod Sound
