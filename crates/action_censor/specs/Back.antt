-- What a document was before steps of records, by what it is after them and what they tell.
use Rattle.std.specs.Prelude.{ℕ, true, cond, ◌&&◌, List, [], ◌∷◌, map, find, ◌≡◌, Option, Some, None, unwrap_or}
use Rattle.std.specs.Option.{option_map}
use Rattle.std.specs.Str.{bytes_eq}
use Rattle.cell_types.specs.declared.cell.CellOld.{CellOld}
use Rattle.cell_types.specs.declared.value.CellValue.{CellValue}
use Rattle.doc_model.specs.declared.action.DocAction.{DocAction}
use Rattle.doc_model.specs.declared.action.DocAction.TheVariants.{BulkAdd, BulkRemove}
use Rattle.doc_model.specs.declared.column.ColDef.{ColDef}
use Rattle.doc_model.specs.ByIds.{find_id}
use Rattle.doc_model.specs.Column.{column_id}
use Rattle.doc_model.specs.Document.{Document, Table, on_grid}
use Rattle.doc_model.specs.Grid.{Grid, IsGrid, cell, grid_of}
use Rattle.doc_model.specs.Records.{or_else}
use Rattle.doc_model.specs.Rows.{has, insert_rows, without}
use Rattle.action_censor.specs.Step.{Step, is_in_row}

-- what a cell held, where it is one of these
abbrev pub held_before : List CellOld → List ℕ → List ℕ → ℕ → Option CellValue
held_before cells t c r =
    option_map (λ (o : CellOld). o.old)
    (find (λ (o : CellOld). is_in_row t r o && bytes_eq o.cell.column c) cells)

-- the first that steps tell of it
abbrev pub first_held : List Step → List ℕ → List ℕ → ℕ → Option CellValue
first_held [] t c r = None
first_held (k ∷ ks) t c r = or_else (held_before k.cells t c r) (first_held ks t c r)

-- the rows of a table before a record action, by those after it
abbrev pub rows_back : DocAction → List ℕ → List ℕ → List ℕ
rows_back (BulkAdd table rows ks) t now = cond (bytes_eq table t) (without rows now) now
rows_back (BulkRemove table rows) t now = cond (bytes_eq table t) (insert_rows rows now) now
rows_back _ t now = now

-- before all steps, the last one taken back first
abbrev pub all_rows_back : List Step → List ℕ → List ℕ → List ℕ
all_rows_back [] t now = now
all_rows_back (k ∷ ks) t now = rows_back k.action t (all_rows_back ks t now)

-- a table before steps: each cell holds the first that they tell of it, or else what it holds now
abbrev pub grid_back : List Step → List ℕ → Grid ColDef → Grid ColDef
grid_back ks t g =
    grid_of g.columns (all_rows_back ks t g.rows) (λ (d : ColDef) r.
    unwrap_or (first_held ks t d.id r) (cell column_id g d.id r))

-- the document before them
abbrev pub back : List Step → Document → Document
back ks s = map (λ (t : Table). on_grid (grid_back ks t.id) t) s

-- what one step makes of a table, from g to h: the columns stay, and each cell from before is told
-- of, or is there after the step and holds the same
pub record IsStepOf (k : Step) (t : List ℕ) (g h : Grid ColDef) : Type 0 where
  pub columns : g.columns ≡ h.columns
  pub rows : g.rows ≡ rows_back k.action t h.rows
  pub told : (d : ColDef) (r : ℕ) (v : CellValue) → find_id column_id d.id g.columns ≡ Some d
      → has g.rows r ≡ true → held_before k.cells t d.id r ≡ Some v → cell column_id g d.id r ≡ v
  pub same : (d : ColDef) (r : ℕ) → find_id column_id d.id g.columns ≡ Some d
      → has g.rows r ≡ true → held_before k.cells t d.id r ≡ None
      → (has h.rows r ≡ true) × (cell column_id g d.id r ≡ cell column_id h d.id r)

-- steps lead from one table to another
abbrev pub AreStepsOf : List Step → List ℕ → Grid ColDef → Grid ColDef → Type 0
AreStepsOf [] t g h = g ≡ h
AreStepsOf (k ∷ ks) t g h =
    (m : Grid ColDef) × IsGrid column_id m × IsStepOf k t g m × AreStepsOf ks t m h
