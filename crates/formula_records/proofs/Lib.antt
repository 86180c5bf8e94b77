pub mod UnionLemmas
pub mod ItemLemmas
