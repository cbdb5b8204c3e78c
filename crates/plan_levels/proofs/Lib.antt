pub mod Entering
pub mod Located
pub mod Numbered
pub mod Told
