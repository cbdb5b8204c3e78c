pub mod Levels
pub mod Passed
