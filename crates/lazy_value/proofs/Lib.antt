pub mod Forming
pub mod Going
pub mod Keeping
pub mod NamesFormed
pub mod OnWay
pub mod Opened
pub mod Parts
