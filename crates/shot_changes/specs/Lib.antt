pub mod Leading
pub mod NotedCells
