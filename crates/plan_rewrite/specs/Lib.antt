pub mod Rewritten
pub mod Law
pub mod Edits
pub mod Marks
pub mod Walk
pub mod Blocks
