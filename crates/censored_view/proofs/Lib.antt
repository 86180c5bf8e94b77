pub mod PlacedLemmas
pub mod ShownRows
pub mod RowWalk
mod ReadLemmas
pub mod SortedRows
pub mod ColumnWalk
pub mod TableWalk
pub mod ViewLemmas
mod QuestionLemmas
mod PartsMade
mod SameViews
