pub mod Forms
pub mod GoesOn
pub mod Misfit
pub mod Next
pub mod Words
