pub mod PartLemmas
pub mod RuleTreeLemmas
pub mod PlanReads
pub mod WellFormedLemmas
