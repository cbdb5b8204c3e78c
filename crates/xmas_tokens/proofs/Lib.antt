pub mod Apart
pub mod Ended
pub mod Lexemes
pub mod Parts
pub mod Quotes
pub mod Sound
pub mod Texts
pub mod Unique
