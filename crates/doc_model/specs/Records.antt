-- What record actions do to the cells of one table, in a document and in a view.
use Rattle.std.specs.Prelude.{ℕ, cond, nat_eq, List, [], ◌∷◌, map, Option, Some, None, unwrap_or}
use Rattle.std.specs.Str.{bytes_eq}
use Rattle.cell_types.specs.declared.value.CellValue.{CellValue}
use Rattle.doc_model.specs.declared.column.CellColumn.{CellColumn}
use Rattle.doc_model.specs.Rows.{has, insert_rows, without}
use Rattle.doc_model.specs.Grid.{Grid, grid_of, cell}

-- the first, or else the second
abbrev pub or_else : {X : Type 0} → Option X → Option X → Option X
or_else None o = o
or_else (Some x) o = Some x

-- the last value that stands beside the row
abbrev pub value_for : List ℕ → List CellValue → ℕ → Option CellValue
value_for [] vs r = None
value_for (q ∷ rows) [] r = None
value_for (q ∷ rows) (v ∷ vs) r = or_else (value_for rows vs r) (cond (nat_eq q r) (Some v) None)

-- the last value that an action over these rows gives to a column in a row
abbrev pub given : List ℕ → List CellColumn → List ℕ → ℕ → Option CellValue
given rows [] c r = None
given rows (k ∷ ks) c r =
    or_else (given rows ks c r) (cond (bytes_eq k.id c) (value_for rows k.values r) None)

abbrev pub given_id : CellColumn → List ℕ
given_id k = k.id

module _ {C : Type 0} (id : C → List ℕ) where
  -- the rows with the given values, and elsewhere what cells of the column start with
  abbrev pub add_rows : (C → CellValue) → List ℕ → List CellColumn → Grid C → Grid C
  add_rows start rows ks g =
      grid_of g.columns (insert_rows rows g.rows) (λ d r.
      cond (has rows r) (unwrap_or (given rows ks (id d) r) (start d)) (cell id g (id d) r))

  -- the given values written
  abbrev pub update_rows : List ℕ → List CellColumn → Grid C → Grid C
  update_rows rows ks g =
      grid_of g.columns g.rows (λ d r. unwrap_or (given rows ks (id d) r) (cell id g (id d) r))

  -- the rows gone
  abbrev pub remove_rows : List ℕ → Grid C → Grid C
  remove_rows rows g = grid_of g.columns (without rows g.rows) (λ d r. cell id g (id d) r)

  -- the cells of a column in these rows
  abbrev pub column_of : Grid C → List ℕ → List ℕ → CellColumn
  column_of g rows c = record { id = c; values = map (cell id g c) rows }
