pub mod WholeView
pub mod PlannedValues
