pub mod AlikeLemmas
pub mod CheckLemmas
