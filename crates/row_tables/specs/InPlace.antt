-- Changes of a table's rows and cells in their places, and what takes them back.
use Rattle.std.specs.Prelude.{ℕ, ◌+◌, ◌≤◌, cond, List, [], ◌∷◌, ◌++◌, length, slice_set, slice_index_or, vec_len, vec_capacity}
use Rattle.std.specs.List.{insert, remove}
use Rattle.std.specs.Str.{bytes_eq}
use Rattle.cell_types.specs.declared.value.CellValue.{CellValue}
use Rattle.doc_model.specs.declared.column.CellColumn.{CellColumn}
use Rattle.doc_model.specs.declared.column.ColDef.{ColDef}
use Rattle.doc_model.specs.Grid.{Grid}
use Rattle.doc_model.specs.Rows.{has}
use Rattle.doc_model.specs.Indexes.{row_index}
use Rattle.row_tables.specs.declared.written.Write.{Write}
use Rattle.row_tables.specs.declared.removed.TakenRow.{TakenRow}
use Rattle.row_tables.specs.declared.removed.TakenRows.{TakenRows}

-- the rows and the cells of a grid changed
abbrev pub on_rows : (List ℕ → List ℕ) → (List (List CellValue) → List (List CellValue))
    → Grid ColDef → Grid ColDef
on_rows f h g = record { columns = g.columns; rows = f g.rows; cells = h g.cells }

-- ---- values

-- the index of the first column of that id, or the end
abbrev pub id_index : List ℕ → List ColDef → ℕ
id_index c [] = 0
id_index c (d ∷ cs) = cond (bytes_eq c d.id) 0 (id_index c cs + 1)

-- the cell at the indexes of a row and a column set
abbrev pub set_cell : Write → List (List CellValue) → List (List CellValue)
set_cell w cells =
    slice_set cells w.row (slice_set (slice_index_or cells w.row []) w.column w.value)

-- all written, in order
abbrev pub written : List Write → List (List CellValue) → List (List CellValue)
written [] cells = cells
written (w ∷ ws) cells = written ws (set_cell w cells)

-- all written, the last one first
abbrev pub written_back : List Write → List (List CellValue) → List (List CellValue)
written_back [] cells = cells
written_back (w ∷ ws) cells = set_cell w (written_back ws cells)

-- what values beside rows write in a column; nothing for a row that is not there
abbrev pub column_writes : List ℕ → ℕ → List ℕ → List CellValue → List Write
column_writes there column [] vs = []
column_writes there column (q ∷ rows) [] = []
column_writes there column (q ∷ rows) (v ∷ vs) =
    cond (has there q)
    (record { row = row_index q there; column = column; value = v }
    ∷ column_writes there column rows vs)
    (column_writes there column rows vs)

-- what given columns write in a grid
abbrev pub all_writes : Grid ColDef → List ℕ → List CellColumn → List Write
all_writes g rows [] = []
all_writes g rows (k ∷ ks) =
    column_writes g.rows (id_index k.id g.columns) rows k.values ++ all_writes g rows ks

-- ---- rows that go

-- the rows without those that are taken out one after the other
abbrev pub rows_left : List ℕ → List ℕ → List ℕ
rows_left [] rows = rows
rows_left (q ∷ gone) rows =
    cond (has rows q) (rows_left gone (remove rows (row_index q rows))) (rows_left gone rows)

-- what stands beside them
abbrev pub beside_left : {X : Type 0} → List ℕ → List ℕ → List X → List X
beside_left [] rows xs = xs
beside_left (q ∷ gone) rows xs =
    cond (has rows q)
    (beside_left gone (remove rows (row_index q rows)) (remove xs (row_index q rows)))
    (beside_left gone rows xs)

-- the rows put in again, the last one first, and their cells
abbrev pub rows_again : List TakenRow → List ℕ → List ℕ
rows_again [] rows = rows
rows_again (t ∷ ts) rows = insert (rows_again ts rows) t.index t.row

abbrev pub cells_again : List TakenRow → List (List CellValue) → List (List CellValue)
cells_again [] cells = cells
cells_again (t ∷ ts) cells = insert (cells_again ts cells) t.index t.cells

-- whether there is room for the rows that are gone beside those that are left
abbrev pub HasRoom : TakenRows → Grid ColDef → Type 0
HasRoom back g =
    (length g.rows + vec_len back.taken ≤ vec_capacity back.rows)
    × (length g.cells + vec_len back.taken ≤ vec_capacity back.cells)
