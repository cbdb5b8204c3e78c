pub mod Evidenced
pub mod Given
pub mod Known
pub mod Reach
pub mod Seeks
pub mod Turns
pub mod Ways
