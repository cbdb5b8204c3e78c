pub mod Finding
pub mod Forms
pub mod Named
pub mod Steps
