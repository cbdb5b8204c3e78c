pub mod Causes
pub mod Fill
pub mod Open
pub mod Plain
pub mod Small
pub mod View
