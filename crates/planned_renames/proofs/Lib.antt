pub mod PlanParts
pub mod ColumnPlans
pub mod UnmarkedTrees
pub mod PlannedTexts
