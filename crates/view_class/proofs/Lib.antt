pub mod Laid
pub mod Lists
pub mod ShapeLists
pub mod Sourced
pub mod Unread
