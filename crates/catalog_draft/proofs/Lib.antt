pub mod Bytes
pub mod FirstRecords
pub mod LineTexts
pub mod Outcomes
pub mod Read
pub mod Said
