pub mod Bound
pub mod Cheap
pub mod Classes
pub mod Facts
pub mod Levels
