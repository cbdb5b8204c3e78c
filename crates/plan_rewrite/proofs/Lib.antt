mod BlockParts
mod BlockSteps
mod Cases
mod Editing
mod Endings
mod Kept
mod Lists
pub mod OwnTree
mod Placing
mod PlanTree
mod Pushing
mod Raised
mod Renumbering
mod Walking
