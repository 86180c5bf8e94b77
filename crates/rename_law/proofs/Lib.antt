pub mod JudgedSteps
pub mod KeptValues
