-- The formula cells that steps tell of, and what a document with its values makes of them.
use Rattle.std.specs.Prelude.{ℕ, Bool, cond, not, List, [], ◌∷◌, ◌++◌, map, filter, is_some, unwrap_or, ◌≡◌}
use Rattle.std.specs.List.{flat_map, list_any}
use Rattle.cell_types.specs.declared.cell.CellId.{CellId}
use Rattle.cell_types.specs.declared.cell.CellOld.{CellOld}
use Rattle.cell_types.specs.declared.value.CellValue.{CellValue}
use Rattle.cell_types.specs.declared.value.CellValue.TheVariants.{Null}
use Rattle.doc_model.specs.declared.action.DocAction.{DocAction}
use Rattle.doc_model.specs.declared.action.DocAction.TheVariants.{BulkAdd}
use Rattle.doc_model.specs.declared.column.ColDef.{ColDef}
use Rattle.doc_model.specs.Document.{Document, table_id}
use Rattle.doc_model.specs.Readers.{cell_at}
use Rattle.doc_readers.specs.Parts.{grid_at}
use Rattle.recalc.specs.Cells.{cell_of}
use Rattle.action_censor.specs.Step.{Step}
use Rattle.shot_cells.specs.Places.{ByCell, is_cell}
use Rattle.shot_cells.specs.ShotDocument.{is_formula_at}
use Rattle.shot_cells.specs.declared.changes.CellChanges.{CellChanges}

-- whether a cell is among these
abbrev pub has_cell : List CellId → ByCell Bool
has_cell cells table column row = list_any (λ c. is_cell c table column row) cells

-- whether a cell is there, and what it holds
abbrev pub is_there : Document → CellId → Bool
is_there d c = is_some (cell_at d c.table c.column c.row)

abbrev pub value_in : Document → CellId → CellValue
value_in d c = unwrap_or (cell_at d c.table c.column c.row) Null

-- the cells of a column in these rows, where it has a formula
abbrev pub column_cells : List ℕ → List ℕ → ColDef → List CellId
column_cells t rows d = cond d.info.is_formula (map (cell_of t d.id) rows) []

-- those of a table
abbrev pub row_cells : Document → List ℕ → List ℕ → List CellId
row_cells d t rows = flat_map (column_cells t rows) (grid_at d t).columns

-- those of the rows that an action adds
abbrev pub added_cells : Document → DocAction → List CellId
added_cells d (BulkAdd table rows ks) = row_cells d table rows
added_cells d _ = []

-- a cell that held something else or is gone, where its column has a formula
abbrev pub lost_cell : Document → CellOld → List CellId
lost_cell d o = cond (is_formula_at d o.cell.table o.cell.column) (o.cell ∷ []) []

-- all that a step tells of
abbrev pub step_cells : Document → Step → List CellId
step_cells d k = added_cells d k.action ++ flat_map (lost_cell d) k.cells

-- all formula cells of a table, and of a document
abbrev pub table_cells : Document → List ℕ → List CellId
table_cells d t = row_cells d t (grid_at d t).rows

abbrev pub document_cells : Document → List CellId
document_cells d = flat_map (table_cells d) (map table_id d)

-- changes with these cells at their end: those that are there with what they hold, and those that
-- are gone
pub record Adds (d : Document) (told : List CellId) (old new : CellChanges) : Type 0 where
  pub anew : new.anew ≡ old.anew
  pub cells : new.cells.items ≡ old.cells.items ++ filter (is_there d) told
  pub values : new.values.items ≡ old.values.items ++ map (value_in d) (filter (is_there d) told)
  pub gone : new.gone.items ≡ old.gone.items ++ filter (λ c. not (is_there d c)) told

-- the changes that these cells make alone
pub record AreChanges (is_anew : Bool) (d : Document) (told : List CellId) (c : CellChanges)
    : Type 0 where
  pub anew : c.anew ≡ is_anew
  pub cells : c.cells.items ≡ filter (is_there d) told
  pub values : c.values.items ≡ map (value_in d) (filter (is_there d) told)
  pub gone : c.gone.items ≡ filter (λ c. not (is_there d c)) told
