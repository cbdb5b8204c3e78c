pub mod Kept
pub mod Unasked
