mod Calls
mod Prefixes
mod Indices
pub mod Keeps
pub mod Taken
mod Taking
mod Writes
pub mod Written
