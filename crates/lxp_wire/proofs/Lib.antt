pub mod Carried
pub mod Replied
pub mod Served
pub mod Streams
