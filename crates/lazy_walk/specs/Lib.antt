pub mod Above
pub mod Finding
pub mod Kept
pub mod Leading
pub mod Walks
pub mod Places
pub mod Stages
