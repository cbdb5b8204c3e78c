pub mod FileLinks
pub mod Losses
pub mod Receiving
