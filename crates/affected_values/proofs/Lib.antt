mod TakenLemmas
pub mod RefreshedLemmas
mod NamedLemmas
pub mod SamePlaces
mod WaysBack
pub mod HeldNone
pub mod RowCellLemmas
pub mod IndexLemmas
pub mod LeftIndexes
mod TradedLemmas
mod ExchangedLemmas
pub mod RelaidLemmas
pub mod LaidLemmas
pub mod RowsOver
mod AlteredLemmas
mod FormulaCells
mod CarriedLemmas
