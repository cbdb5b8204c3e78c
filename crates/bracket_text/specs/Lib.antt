pub mod Canonical
pub mod Grammar
pub mod Machine
pub mod ReaderState
pub mod Results
pub mod Said
pub mod Stands
