mod Counted
mod Fields
mod Lines
mod Named
mod Opened
mod Visiting
pub mod Shapes
