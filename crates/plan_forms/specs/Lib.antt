pub mod Forms
pub mod Links
