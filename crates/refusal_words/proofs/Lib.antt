pub mod Counted
pub mod FaultyLines
pub mod SourceLines
