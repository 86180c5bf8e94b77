pub mod Step
pub mod Back
pub mod Touched
pub mod ToldCells
pub mod TouchedTables
pub mod ShownParts
pub mod FollowLaws
