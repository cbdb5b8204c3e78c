pub mod Law
pub mod NodeDomains
pub mod Unsatisfiable
