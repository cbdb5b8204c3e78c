pub mod Beside
pub mod Chains
pub mod Firsts
pub mod Gathers
pub mod Orders
pub mod Steps
pub mod Visits
