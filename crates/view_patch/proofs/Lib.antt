pub mod GivenIndexes
pub mod Spots
pub mod EditedCells
pub mod PatchSteps
