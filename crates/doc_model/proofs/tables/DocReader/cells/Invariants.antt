use Rattle.std.proofs.Common.{◌≡◌, ◌++◌, drop, map}
use Rattle.std.specs.Option.{option_copied}
use Rattle.doc_model.specs.Readers.{cell_at}
use Rattle.doc_model.proofs.tables.DocReader.cells.Given as goal

abbrev pub invariant-loop-row : goal.invariant-loop-row
invariant-loop-row g l =
    map option_copied l.cells.items ++ map (cell_at (g.Self.DocReader.document l.self) l.table l.column) (drop l.row-index l.rows)
    ≡ map (cell_at (g.Self.DocReader.document l.self) l.table l.column) l.rows
