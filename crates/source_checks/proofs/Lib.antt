pub mod Files
pub mod Saying
