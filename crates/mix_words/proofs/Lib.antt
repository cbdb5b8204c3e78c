pub mod LineCuts
pub mod NameBytes
pub mod Pieces
pub mod Trims
pub mod WordCuts
pub mod WordPlaces
