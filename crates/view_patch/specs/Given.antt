-- What an action's columns give, by indexes.
use Rattle.std.specs.Prelude.{ℕ, ◌+◌, Bool, nat_eq, cond, List, [], ◌∷◌, Option, Some, None, get_or, slice_get, length, ◌≡◌, unwrap_or, ⊤}
use Rattle.std.specs.List.{AllByRecursion}
use Rattle.std.specs.Str.{bytes_eq}
use Rattle.cell_types.specs.declared.value.CellValue.{CellValue}
use Rattle.cell_types.specs.declared.value.CellValue.TheVariants.{Null}
use Rattle.doc_model.specs.declared.column.CellColumn.{CellColumn}
use Rattle.doc_model.specs.declared.view.ViewCol.{ViewCol}
use Rattle.doc_model.specs.declared.view.ViewAction.{ViewAction}
use Rattle.doc_model.specs.declared.view.ViewAction.TheVariants.{BulkAdd, BulkUpdate}
use Rattle.doc_model.specs.Grid.{Grid, beside}
use Rattle.doc_model.specs.Records.{given, or_else}
use Rattle.doc_model.specs.ViewEdits.{shown_start}
use Rattle.plain_view.specs.Cells.{row_cells}

-- the last index at which the test passes, counted from an index
abbrev pub last_where : {K : Type 0} → (K → Bool) → ℕ → List K → Option ℕ
last_where test index [] = None
last_where test index (k ∷ ks) =
    or_else (last_where test (index + 1) ks) (cond (test k) (Some index) None)

-- the last index of a row
abbrev pub last_row : List ℕ → ℕ → Option ℕ
last_row rows r = last_where (λ q. nat_eq q r) 0 rows

-- the last index of a column of an id
abbrev pub last_named : List CellColumn → List ℕ → Option ℕ
last_named ks c = last_where (λ (k : CellColumn). bytes_eq k.id c) 0 ks

-- the column at an index
abbrev pub column_at : List CellColumn → Option ℕ → Option CellColumn
column_at ks None = None
column_at ks (Some index) = slice_get ks index

-- the value that a column gives at an index
abbrev pub given_at : Option ℕ → Option CellColumn → Option CellValue
given_at None column = None
given_at (Some index) None = None
given_at (Some index) (Some k) = Some (get_or k.values index Null)

-- what a cell becomes: the value that is given, or what was there, or else the type's default
abbrev pub new_cell : Grid ViewCol → List ℕ → List CellColumn → ViewCol → ℕ → CellValue
new_cell g rows ks d r =
    unwrap_or (given rows ks d.id r)
    (beside (λ (e : ViewCol). bytes_eq e.id d.id) g.columns (row_cells g r) (shown_start d))

-- each column has one value for each row
abbrev pub AreFull : List ℕ → List CellColumn → Type 0
AreFull rows ks = AllByRecursion (λ (k : CellColumn). length k.values ≡ length rows) ks

-- each column of the action has one value for each of its rows
abbrev pub IsFull : ViewAction → Type 0
IsFull (BulkAdd t rows ks) = AreFull rows ks
IsFull (BulkUpdate t rows ks) = AreFull rows ks
IsFull _ = ⊤
