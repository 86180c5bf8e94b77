use Rattle.std.proofs.Common.{◌≡◌, ◌++◌, drop}
use Rattle.recalc.proofs.LosingCells.{column_passing, flat}
use Rattle.affected_search.specs.Losing.{is_named}
use Rattle.affected_search.proofs.losing.push_table.Given as goal

abbrev pub invariant-loop-column : goal.invariant-loop-column
invariant-loop-column g l =
    l.cells.items ++ flat (column_passing (g.R.DocReader.document l.doc) (is_named l.named.graph.now.names l.named.index.now (g.R.DocReader.document l.doc) l.named.action.now) l.table) (drop l.column-index l.column-items)
    ≡ l.initial.cells.items ++ flat (column_passing (g.R.DocReader.document l.doc) (is_named l.named.graph.now.names l.named.index.now (g.R.DocReader.document l.doc) l.named.action.now) l.table) l.column-items
