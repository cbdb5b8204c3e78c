pub mod Documents
pub mod Found
pub mod Parts
pub mod Steps
