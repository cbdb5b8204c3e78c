pub mod Candidates
pub mod Expected
pub mod Fits
