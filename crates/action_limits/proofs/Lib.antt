mod SumLemmas
mod CountedLemmas
mod SumMoves
mod MaximaMoves
mod Rising
mod Leaving
mod ExpansionLemmas
mod ClearingMoves
mod RenamingMoves
mod ModifyMoves
mod StepMoves
pub mod RenameMoves
mod AddMoves
mod SchemaGrowth
mod Bringing
