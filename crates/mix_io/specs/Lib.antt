pub mod Contents
pub mod Input
pub mod MemInput
pub mod Memory
pub mod StdInput
pub mod System
pub mod Views
pub mod Whole
