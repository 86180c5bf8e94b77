mod CellLemmas
mod CycleLemmas
mod LevelLemmas
pub mod NamingLemmas
mod NumberLemmas
mod OkLemmas
mod RoundLemmas
