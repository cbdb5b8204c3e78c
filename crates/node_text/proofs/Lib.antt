pub mod Complete
pub mod Prefixes
pub mod Numbers
pub mod Sound
pub mod States
pub mod Texts
pub mod Verdicts
