pub mod ListLaw
pub mod AttributeLaw
pub mod ShownRules
pub mod PlannedRules
