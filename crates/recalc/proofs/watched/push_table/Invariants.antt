use Rattle.std.proofs.Common.{◌≡◌, ◌++◌, drop}
use Rattle.recalc.proofs.LosingCells.{column_losing, flat}
use Rattle.recalc.proofs.watched.push_table.Given as goal

abbrev pub invariant-loop-column : goal.invariant-loop-column
invariant-loop-column g l =
    l.cells.items ++ flat (column_losing (g.R.DocReader.document l.doc) l.action l.table) (drop l.column-index l.column-items)
    ≡ l.initial.cells.items ++ flat (column_losing (g.R.DocReader.document l.doc) l.action l.table) l.column-items
