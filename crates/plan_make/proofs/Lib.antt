mod WorkedRows
pub mod Numbering
pub mod RaisedRows
pub mod Levels
pub mod Groupings
pub mod TupleRows
pub mod Joins
pub mod Branches
pub mod BodyTrees
pub mod ComponentRows
pub mod Sorts
pub mod OuterLevel
pub mod Whole
pub mod TreeParts
pub mod RaisedParts
pub mod Rising
pub mod Fitting
pub mod BranchParts
pub mod BodyParts
pub mod BodyKinds
pub mod Validity
mod Shifting
mod Growing
mod Selecting
mod Raising
mod Building
mod Joining
mod Finish
