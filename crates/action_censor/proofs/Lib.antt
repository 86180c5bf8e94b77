mod NameLemmas
pub mod BackLemmas
mod StepLemmas
mod NarrowLemmas
mod ToldLemmas
mod RowLemmas
mod ThereLemmas
mod CellLemmas
mod TableLemmas
mod PartLemmas
