pub mod Agree
pub mod Known
pub mod LevelLists
pub mod Profiles
pub mod Runs
pub mod Slots
pub mod VarDomains
