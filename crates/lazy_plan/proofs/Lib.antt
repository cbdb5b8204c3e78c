pub mod Benches
pub mod GatheredMembers
pub mod GroupSteps
pub mod Low
pub mod NextMembers
pub mod Openings
pub mod Unders
