pub mod Found
pub mod Laid
pub mod Layouts
pub mod Samples
pub mod Shapes
pub mod SortSet
pub mod Tables
pub mod Visits
