pub mod Answer
pub mod FixedLinks
pub mod Links
pub mod MemLinks
pub mod Stream
