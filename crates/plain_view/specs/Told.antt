-- Cells that are other ones than before, by the indexes of their column.
use Rattle.std.specs.Prelude.{ℕ, Bool, not, ◌&&◌}
use Rattle.cell_types.specs.declared.value.CellValue.TheVariants.{Null}
use Rattle.doc_model.specs.declared.view.ViewCol.{ViewCol}
use Rattle.doc_model.specs.Grid.{Grid}
use Rattle.doc_model.specs.Rows.{has}
use Rattle.doc_model.specs.Same.{same_value}
use Rattle.plain_view.specs.declared.records.Indexes.{Indexes}
use Rattle.plain_view.specs.Cells.{row_cells, value_in}

-- whether the cell of a row that stays is another one than before
abbrev pub is_told_at : Grid ViewCol → Grid ViewCol → Indexes → ℕ → Bool
is_told_at g w indexes r =
    has g.rows r
    && not (same_value (value_in (row_cells g r) indexes.before indexes.start)
    (value_in (row_cells w r) indexes.after Null))
