pub mod Indexes
pub mod InOrder
pub mod Numbers
pub mod Searches
