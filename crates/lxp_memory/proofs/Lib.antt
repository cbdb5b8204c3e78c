pub mod ChunkLaws
pub mod CutLaws
pub mod CutSteps
pub mod DocumentLaws
pub mod MetTrees
pub mod NodeLaws
pub mod SmallCuts
pub mod Totals
