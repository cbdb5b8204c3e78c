pub mod Csv
pub mod Document
pub mod Parts
pub mod Rows
pub mod Said
pub mod Stands
pub mod Table
