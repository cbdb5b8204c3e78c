pub mod Failures
pub mod Finding
pub mod Naming
pub mod Same
pub mod Standings
