-- Indexes of data columns over an action.
use Rattle.std.specs.Prelude.{ℕ, Bool, true, false, not, ◌&&◌, List, Option, Some, None, Vec, ◌≡◌}
use Rattle.std.specs.Global.{Global}
use Rattle.std.specs.List.{AllByRecursion}
use Rattle.std.specs.Str.{bytes_eq}
use Rattle.cell_types.specs.declared.column_type.ColType.{ColType}
use Rattle.doc_model.specs.declared.action.DocAction.{DocAction}
use Rattle.doc_model.specs.declared.action.DocAction.TheVariants.{BulkAdd, BulkUpdate, BulkRemove}
use Rattle.doc_model.specs.declared.column.ColDef.{ColDef}
use Rattle.doc_model.specs.Apply.{apply}
use Rattle.doc_model.specs.ByIds.{find_id, has_id}
use Rattle.doc_model.specs.Column.{column_id}
use Rattle.doc_model.specs.Document.{Document}
use Rattle.doc_model.specs.Records.{given_id}
use Rattle.doc_model.specs.Rows.{has, without}
use Rattle.doc_model.specs.Valid.{valid}
use Rattle.doc_readers.specs.Parts.{grid_at}
use Rattle.recalc.specs.declared.indexes.ColumnIndex.{ColumnIndex}
use Rattle.recalc.specs.Cells.{cell_of}
use Rattle.recalc.specs.Evaluated.{sheet_of}
use Rattle.recalc.specs.Indexes.{AreUnder, IsIndex}
use Rattle.recalc.specs.Sheet.{Sheet}

-- whether an action on records leaves the rows of a table and the cells of its column alone
abbrev pub leaves_column : DocAction → List ℕ → List ℕ → Bool
leaves_column (BulkAdd t rows ks) u c = not (bytes_eq u t)
leaves_column (BulkUpdate t rows ks) u c = not (bytes_eq u t && has_id given_id ks c)
leaves_column (BulkRemove t rows) u c = not (bytes_eq u t)
leaves_column _ u c = false

-- the rows of an action on records
abbrev pub rows_of : DocAction → Option (List ℕ)
rows_of (BulkAdd t rows ks) = Some rows
rows_of (BulkUpdate t rows ks) = Some rows
rows_of (BulkRemove t rows) = Some rows
rows_of _ = None

-- their table
abbrev pub table_of : DocAction → Option (List ℕ)
table_of (BulkAdd t rows ks) = Some t
table_of (BulkUpdate t rows ks) = Some t
table_of (BulkRemove t rows) = Some t
table_of _ = None

-- a column of the document, without formulas
pub record IsDataColumn (s : Document) (t c : List ℕ) (d : ColDef) : Type 0 where
  pub there : Some d ≡ find_id column_id d.id (grid_at s t).columns
  pub plain : d.info.is_formula ≡ false
  pub named : d.id ≡ c

-- an index of a column without formulas, but for these rows, which stand under no bucket
pub record IsIndexBut (s : Sheet) (gone u c : List ℕ) (index : List (ℕ × Vec ℕ Global)) :
    Type 0 where
  pub ty : ColType
  pub kind : s.kind u c ≡ Some ty
  pub no_formula : (r : ℕ) → has gone r ≡ false → s.formula (cell_of u c r) ≡ None
  pub rows : List ℕ
  pub listed : s.rows u ≡ Some rows
  pub filled : AreUnder s u c ty index (without gone rows)

-- an index that an action leaves alone is right, and any other but for the rows of the action
abbrev pub IsLeft : Sheet → DocAction → ColumnIndex → Type 0
IsLeft s a i = elim (leaves_column a i.table i.column) [
  | true ↦ IsIndex s i.table i.column i.index
  | false ↦ elim (rows_of a) [
    | None ↦ ⊥
    | Some rows ↦ IsIndexBut s rows i.table i.column i.index
  ]
]

abbrev pub AreLeft : Document → DocAction → List ColumnIndex → Type 0
AreLeft s a indexes = AllByRecursion (IsLeft (sheet_of s) a) indexes

-- what was left before an action is left after it
abbrev pub LeftOverLaw : Type 0
LeftOverLaw = (s : Document) (a : DocAction) → valid s a ≡ true → (indexes : List ColumnIndex)
    → AreLeft s a indexes → AreLeft (apply s a) a indexes

-- what was left after an action, for its rows to go, is left so before it
abbrev pub LeftBackLaw : Type 0
LeftBackLaw = (s : Document) (a : DocAction) (t rows : List ℕ) → valid s a ≡ true
    → table_of a ≡ Some t → rows_of a ≡ Some rows → (indexes : List ColumnIndex)
    → AreLeft (apply s a) (BulkRemove t rows) indexes → AreLeft s (BulkRemove t rows) indexes
