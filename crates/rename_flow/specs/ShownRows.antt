-- The rows that a view shows of a table, and what their cells say.
use Rattle.std.specs.Prelude.{ℕ, ℤ, ◌+◌, List, [], ◌∷◌, Option, Some, None, slice_get}
use Rattle.std.specs.List.{position}
use Rattle.std.specs.Str.{bytes_eq}
use Rattle.cell_types.specs.declared.value.CellValue.{CellValue}
use Rattle.doc_model.specs.declared.view.ViewCol.{ViewCol}
use Rattle.doc_model.specs.declared.view.ViewTable.{ViewTable}
use Rattle.doc_model.specs.ByIds.{find_id}
use Rattle.doc_model.specs.Changes.{shown_table_id}
use Rattle.acl_rules.specs.Loaded.{number_in, text_in}

-- a row with its cells, in the order of these columns
pub record ShownRow : Type 0 where
  pub columns : List ViewCol
  pub row : ℕ
  pub cells : List CellValue

-- the cell of a column
abbrev pub shown_cell : List ViewCol → List CellValue → List ℕ → Option CellValue
shown_cell ds vs c =
    elim (position (λ (d : ViewCol). bytes_eq d.id c) ds) [ None ↦ None | Some i ↦ slice_get vs i ]

-- the text that it holds, and the number
abbrev pub text_shown : List ViewCol → List CellValue → List ℕ → Option (List ℕ)
text_shown ds vs c = text_in (shown_cell ds vs c)

abbrev pub number_shown : List ViewCol → List CellValue → List ℕ → ℤ
number_shown ds vs c = number_in (shown_cell ds vs c)

-- the cells at an index
abbrev pub cells_at : ViewTable → ℕ → List CellValue
cells_at w i = elim (slice_get w.cells i) [ None ↦ [] | Some vs ↦ vs ]

-- the rows of a table from an index on
abbrev pub rows_from : ViewTable → ℕ → List ℕ → List ShownRow
rows_from w i [] = []
rows_from w i (r ∷ rows) =
    record { columns = w.columns; row = r; cells = cells_at w i } ∷ rows_from w (i + 1) rows

-- all of them, none where the table is not shown
abbrev pub rows_in : Option ViewTable → List ShownRow
rows_in None = []
rows_in (Some w) = rows_from w 0 w.rows

abbrev pub rows_of : List ViewTable → List ℕ → List ShownRow
rows_of v t = rows_in (find_id shown_table_id t v)
