pub mod Asked
pub mod Failing
pub mod Holes
pub mod Lines
pub mod Links
pub mod Standing
