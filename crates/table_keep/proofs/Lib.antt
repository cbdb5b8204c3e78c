pub mod Nulls
pub mod Points
pub mod Projections
pub mod Rising
