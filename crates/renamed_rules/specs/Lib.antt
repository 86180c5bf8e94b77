pub mod RenamedCells
pub mod RenamedRules
pub mod RuleValues
pub mod Decisions
pub mod FollowingRows
