pub mod Binding
pub mod Lasts
