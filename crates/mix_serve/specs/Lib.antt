pub mod Ends
pub mod Failures
pub mod Faults
pub mod Pieces
pub mod Replied
