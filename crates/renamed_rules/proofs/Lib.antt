pub mod RuleValueLemmas
pub mod MovedCells
pub mod MovedUsers
pub mod MovedChains
pub mod SameDecisions
pub mod MovedFillings
pub mod RowLemmas
