pub mod Report
pub mod Sources
