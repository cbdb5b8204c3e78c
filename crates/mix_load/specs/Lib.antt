pub mod Classing
pub mod Parts
pub mod People
pub mod View
pub mod Visit
