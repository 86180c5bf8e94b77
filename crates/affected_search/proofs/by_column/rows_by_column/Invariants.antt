use Rattle.std.proofs.Common.{take}
use Rattle.affected_search.specs.ByColumn.{HasRowsOf}
use Rattle.affected_search.proofs.by_column.rows_by_column.Given as goal

-- the cells so far stand under their columns
abbrev pub invariant-loop-cell : goal.invariant-loop-cell
invariant-loop-cell l = HasRowsOf (take l.cell-index l.cells) l.rows
