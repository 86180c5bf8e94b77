pub mod KeptLemmas
pub mod Complete
pub mod Sound
pub mod WordLemmas
pub mod Turns
pub mod Clauses
pub mod FormulaOfLemmas
mod OpenKeyLemmas
