mod NumberLemmas
pub mod ObjectionLemmas
mod RuleRowLemmas
mod UnopposedLemmas
pub mod ViewLemmas
