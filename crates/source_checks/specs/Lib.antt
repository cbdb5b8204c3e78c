pub mod Beside
pub mod Checks
pub mod Texts
pub mod Words
