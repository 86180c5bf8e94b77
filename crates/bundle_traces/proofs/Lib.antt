mod LostCells
mod RecordActions
mod Traces
pub mod Bundles
