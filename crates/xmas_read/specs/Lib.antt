pub mod Again
pub mod Canonical
pub mod Faults
pub mod ItemValue
pub mod Refusals
pub mod Results
pub mod Tree
pub mod Value
