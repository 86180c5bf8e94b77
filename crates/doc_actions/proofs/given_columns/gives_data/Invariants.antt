use Rattle.std.proofs.Common.{◌≡◌, drop}
use Rattle.std.specs.List.{list_all}
use Rattle.doc_readers.specs.Parts.{grid_at}
use Rattle.doc_model.specs.Valid.{gives_column}
use Rattle.doc_actions.proofs.given_columns.gives_data.Given as goal

-- the rest decides
abbrev pub invariant-loop-column : goal.invariant-loop-column
invariant-loop-column g l =
    list_all (gives_column (grid_at (g.D.DocReader.document l.tables) l.table) l.rows) (drop l.column-index l.columns)
    ≡ list_all (gives_column (grid_at (g.D.DocReader.document l.tables) l.table) l.rows) l.columns
