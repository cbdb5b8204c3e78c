pub mod AnySteps
pub mod Laid
pub mod SampleLaws
pub mod SortSets
pub mod TableLaid
pub mod VisitFits
pub mod VisitKinds
