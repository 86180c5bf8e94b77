use Rattle.std.proofs.Common.{◌≡◌, ◌++◌, drop}
use Rattle.recalc.proofs.LosingCells.{flat, table_losing}
use Rattle.recalc.proofs.watched.watched_cells.Given as goal

abbrev pub invariant-loop-table : goal.invariant-loop-table
invariant-loop-table g l =
    l.cells.items ++ flat (table_losing (g.R.DocReader.document l.doc) l.action) (drop l.table-index l.table-items)
    ≡ flat (table_losing (g.R.DocReader.document l.doc) l.action) l.table-items
