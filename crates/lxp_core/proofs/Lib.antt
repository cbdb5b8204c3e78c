pub mod Causes
pub mod Fills
pub mod Opens
pub mod Plains
pub mod Views
