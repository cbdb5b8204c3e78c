pub mod AnyLaws
pub mod Bounding
pub mod Fitting
pub mod Following
pub mod Repeating
pub mod Replaced
pub mod Totals
