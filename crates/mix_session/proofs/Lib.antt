mod Acts
mod Followed
pub mod Plans
pub mod Prints
pub mod Searches
pub mod Sources
pub mod TollLess
mod Unasked
pub mod Walking
