pub mod CellLemmas
pub mod RowIdLemmas
pub mod ToldLemmas
pub mod ColumnLemmas
