pub mod Field
pub mod Header
pub mod Law
pub mod Lines
pub mod Names
pub mod Reasons
pub mod Tables
pub mod Written
