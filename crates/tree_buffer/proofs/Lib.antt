mod Calls
mod Columns
mod Documents
mod Entries
mod Exact
mod Fills
mod Handed
mod HandedLists
mod Held
pub mod Laws
mod Places
mod Refine
mod Spots
mod StackTops
mod Start
