pub mod Found
pub mod KnownNodes
pub mod Rows
pub mod Sets
pub mod Sources
pub mod Unmatched
