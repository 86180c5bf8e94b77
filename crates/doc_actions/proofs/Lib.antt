pub mod RowIdLemmas
pub mod ToldLemmas
