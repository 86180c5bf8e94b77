pub mod ColumnLemmas
pub mod ChangedLemmas
pub mod AddedLemmas
