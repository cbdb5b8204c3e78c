pub mod Constant
pub mod Law
pub mod Lists
pub mod Told
pub mod Words
