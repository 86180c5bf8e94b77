use Rattle.std.proofs.Common.{◌≡◌, drop}
use Rattle.std.specs.List.{list_all}
use Rattle.doc_readers.specs.Parts.{grid_at}
use Rattle.doc_model.specs.Column.{column_id}
use Rattle.cell_types.specs.ColumnRange.{is_null}
use Rattle.doc_model.specs.Grid.{cell}
use Rattle.doc_model.specs.Valid.{all_null}
use Rattle.doc_actions.proofs.table_readers.is_all_null.Given as goal

-- the rest decides
abbrev pub invariant-loop-row : goal.invariant-loop-row
invariant-loop-row g l =
    list_all (λ r. is_null (cell column_id (grid_at (g.D.DocReader.document l.tables) l.table) l.column r)) (drop l.row-index l.rows)
    ≡ all_null (grid_at (g.D.DocReader.document l.tables) l.table) l.column
