pub mod Fills
pub mod Learnt
pub mod Listed
pub mod Opened
pub mod Peers
pub mod Ruled
pub mod Taken
pub mod Unread
