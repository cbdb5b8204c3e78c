pub mod Laid
pub mod Layouts
pub mod Lines
pub mod Named
pub mod Reads
