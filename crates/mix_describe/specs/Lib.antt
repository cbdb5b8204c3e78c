pub mod Described
pub mod Describes
pub mod Kinds
pub mod Words
