pub mod Objections
pub mod ObjectionLaws
pub mod RuleRows
pub mod RowsKept
pub mod Unopposed
