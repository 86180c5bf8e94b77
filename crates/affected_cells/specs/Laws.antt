-- The laws of cells that an action does not affect, and of what actions touch.
use Rattle.std.specs.Prelude.{ℕ, ◌≡◌, true, false, cond, List, Option, Some, None}
use Rattle.cell_types.specs.declared.cell.CellId.{CellId}
use Rattle.cell_types.specs.declared.value.CellValue.{CellValue}
use Rattle.doc_model.specs.declared.action.DocAction.{DocAction}
use Rattle.doc_model.specs.declared.action.DocAction.TheVariants.{BulkAdd, BulkUpdate, BulkRemove, AddTable, RemoveTable, RenameTable, AddColumn, RemoveColumn, RenameColumn, ModifyColumn}
use Rattle.doc_model.specs.declared.column.CellColumn.{CellColumn}
use Rattle.doc_model.specs.declared.column.ColDef.{ColDef}
use Rattle.doc_model.specs.declared.column.ColInfo.{ColInfo}
use Rattle.doc_model.specs.Apply.{apply}
use Rattle.doc_model.specs.Document.{Document}
use Rattle.doc_model.specs.DocumentLaws.{IsWhole}
use Rattle.doc_model.specs.Valid.{valid}
use Rattle.recalc.specs.Evaluated.{sheet_of}
use Rattle.recalc.specs.Sheet.{evaluated, reads}
use Rattle.recalc.specs.Stack.{IsSound}
use Rattle.affected_cells.specs.Affected.{affected}
use Rattle.affected_cells.specs.TouchedRight.{TouchesRight}

-- a formula cell that is not affected keeps its value and its reads
abbrev pub KeepsLaw : Type 0
KeepsLaw =
    (s : Document) (a : DocAction) → TouchesRight s a → (c : CellId) (f : List ℕ)
    → (sheet_of (apply s a)).formula c ≡ Some f → affected s a c ≡ false
    → (evaluated (sheet_of (apply s a)) c ≡ evaluated (sheet_of s) c)
    × (reads (sheet_of (apply s a)) c ≡ reads (sheet_of s) c)

-- what is known before anything is evaluated again: the values of cells that are not affected
abbrev pub still_known : Document → DocAction → CellId → Option CellValue
still_known s a c = elim ((sheet_of (apply s a)).formula c) [
  | None ↦ None
  | Some f ↦ cond (affected s a c) None (Some (evaluated (sheet_of s) c))
]

-- these values are right after the action
abbrev pub StillKnownLaw : Type 0
StillKnownLaw =
    (s : Document) (a : DocAction) → TouchesRight s a
    → IsSound (sheet_of (apply s a)) (still_known s a)

-- a valid update touches what is said of it, and no more
abbrev pub UpdateLaw : Type 0
UpdateLaw =
    (s : Document) (t rows : List ℕ) (ks : List CellColumn)
    → valid s (BulkUpdate t rows ks) ≡ true → TouchesRight s (BulkUpdate t rows ks)

-- so do rows that are added, and rows that are removed
pub record RowsTouch (s : Document) (t rows : List ℕ) : Type 0 where
  pub added : (ks : List CellColumn) → valid s (BulkAdd t rows ks) ≡ true
      → TouchesRight s (BulkAdd t rows ks)
  pub removed : valid s (BulkRemove t rows) ≡ true → TouchesRight s (BulkRemove t rows)

abbrev pub RowsLaw : Type 0
RowsLaw = (s : Document) (t rows : List ℕ) → RowsTouch s t rows

-- so does a column that is added, its row in the table of columns included
abbrev pub AddColumnLaw : Type 0
AddColumnLaw =
    (s : Document) (t : List ℕ) (d : ColDef) → IsWhole s → valid s (AddColumn t d) ≡ true
    → TouchesRight s (AddColumn t d)

-- so does a column that is removed
abbrev pub RemoveColumnLaw : Type 0
RemoveColumnLaw =
    (s : Document) (t c : List ℕ) → IsWhole s → valid s (RemoveColumn t c) ≡ true
    → TouchesRight s (RemoveColumn t c)

-- so does a column that is renamed
abbrev pub RenameColumnLaw : Type 0
RenameColumnLaw =
    (s : Document) (t c new : List ℕ) → IsWhole s → valid s (RenameColumn t c new) ≡ true
    → TouchesRight s (RenameColumn t c new)

-- so does a column that is modified
abbrev pub ModifyColumnLaw : Type 0
ModifyColumnLaw =
    (s : Document) (t c : List ℕ) (info : ColInfo) → IsWhole s
    → valid s (ModifyColumn t c info) ≡ true → TouchesRight s (ModifyColumn t c info)

-- so does a table that is added
abbrev pub AddTableLaw : Type 0
AddTableLaw =
    (s : Document) (t : List ℕ) (row : ℕ) (ds : List ColDef) → IsWhole s
    → valid s (AddTable t row ds) ≡ true → TouchesRight s (AddTable t row ds)

-- so does a table that is removed
abbrev pub RemoveTableLaw : Type 0
RemoveTableLaw =
    (s : Document) (t : List ℕ) → IsWhole s → valid s (RemoveTable t) ≡ true
    → TouchesRight s (RemoveTable t)

-- so does a table that is renamed
abbrev pub RenameTableLaw : Type 0
RenameTableLaw =
    (s : Document) (t new : List ℕ) → IsWhole s → valid s (RenameTable t new) ≡ true
    → TouchesRight s (RenameTable t new)
