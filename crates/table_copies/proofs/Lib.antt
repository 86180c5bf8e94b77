pub mod AlikeLemmas
pub mod ColumnLemmas
pub mod FoundLemmas
pub mod TableLemmas
