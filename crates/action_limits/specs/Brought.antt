-- The most columns and rows and the greatest row id that an action brings to tables.
use Rattle.std.specs.Prelude.{ℕ, ◌+◌, map, length, max}
use Rattle.doc_model.specs.declared.action.DocAction.{DocAction}
use Rattle.doc_model.specs.declared.action.DocAction.TheVariants.{BulkAdd, AddTable, AddColumn}
use Rattle.doc_model.specs.Column.{column_row}
use Rattle.doc_model.specs.Counts.{greatest}
use Rattle.doc_model.specs.Document.{Document}
use Rattle.doc_model.specs.MetadataIds.{columns_id, tables_id}
use Rattle.doc_readers.specs.Parts.{grid_at}
use Rattle.action_limits.specs.declared.limits.Counted.{Counted}
use Rattle.action_limits.specs.Capped.{capped, most_of, no_counts}

-- the most rows of the schema tables where so many tables and columns are described
abbrev pub rows_described : Document → ℕ → ℕ → ℕ
rows_described s new_tables new_columns =
    max (capped (length (grid_at s tables_id).rows + new_tables))
    (capped (length (grid_at s columns_id).rows + new_columns))

-- what an action brings: of the tables that get more, how much they have then
abbrev pub maxima_brought : Document → DocAction → Counted
maxima_brought s (BulkAdd table rows ks) =
    most_of 0 (capped (length (grid_at s table).rows + length rows)) (greatest rows)
maxima_brought s (AddTable table row columns) =
    most_of (length columns) (rows_described s 1 (length columns))
    (max row (greatest (map column_row columns)))
maxima_brought s (AddColumn table d) =
    most_of (capped (length (grid_at s table).columns + 1)) (rows_described s 0 1) d.row
maxima_brought s _ = no_counts
