pub mod StopLemmas
pub mod OpenLemmas
pub mod ReachLemmas
pub mod ColumnLemmas
pub mod RowlessLemmas
pub mod SeenLemmas
pub mod ClosedLemmas
mod FaultLemmas
