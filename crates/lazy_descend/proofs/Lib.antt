pub mod Arrival
pub mod Events
pub mod Next
pub mod Progress
pub mod Searches
pub mod Stay
mod WorkedVisit
