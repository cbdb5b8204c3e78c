pub mod Columns
pub mod Forms
pub mod Grammar
pub mod Kept
pub mod Remotes
pub mod Seen
pub mod Sources
pub mod Tables
