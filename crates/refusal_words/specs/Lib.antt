pub mod Catalog
pub mod Listing
pub mod View
