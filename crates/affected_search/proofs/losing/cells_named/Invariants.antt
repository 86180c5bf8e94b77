use Rattle.std.proofs.Common.{◌≡◌, ◌++◌, drop}
use Rattle.recalc.proofs.LosingCells.{flat, table_passing}
use Rattle.affected_search.specs.Losing.{is_named}
use Rattle.affected_search.proofs.losing.cells_named.Given as goal

abbrev pub invariant-loop-table : goal.invariant-loop-table
invariant-loop-table g l =
    l.cells.items ++ flat (table_passing (g.R.DocReader.document l.doc) (is_named l.named.graph.now.names l.named.index.now (g.R.DocReader.document l.doc) l.named.action.now)) (drop l.table-index l.table-items)
    ≡ flat (table_passing (g.R.DocReader.document l.doc) (is_named l.named.graph.now.names l.named.index.now (g.R.DocReader.document l.doc) l.named.action.now)) l.table-items
