pub mod Adding
pub mod GoingOn
pub mod OneLine
pub mod TriedLines
