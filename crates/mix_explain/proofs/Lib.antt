pub mod Explaining
pub mod Viewing
