pub mod Listed
pub mod Memory
pub mod Names
pub mod Untold
pub mod Views
