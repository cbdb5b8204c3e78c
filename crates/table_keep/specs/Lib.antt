pub mod Memory
pub mod Page
pub mod Rows
pub mod Table
pub mod Told
pub mod Untold
pub mod Views
