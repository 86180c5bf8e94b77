-- Cells keep their values where a column of a document has a new name, and formulas follow.
use Rattle.std.specs.Prelude.{ℕ, List, length, ◌≡◌}
use Rattle.doc_model.specs.Document.{Document}
use Rattle.doc_model.specs.DocumentLaws.{IsWhole}
use Rattle.formula_records.specs.Recs.{Columns}
use Rattle.recalc.specs.Evaluated.{filled, sheet_of, value_of}
use Rattle.rename_marks.specs.declared.column_rename.ColumnRename.{ColumnRename}
use Rattle.rename_texts.specs.Renamed.{Rename}
use Rattle.renamed_values.specs.HeldRecords.{IsPlain}
use Rattle.renamed_values.specs.SameEv.{IsKept, moved}
use Rattle.renamed_values.specs.SameSheet.{IsMovedSheet}
use Rattle.renamed_documents.specs.RenamedTables.{IsFollowed, IsRenamed, Rewriting}
use Rattle.renamed_documents.specs.Typed.{AreColumns}

-- both documents are whole, the columns of the first are known, the second is the first with the
-- new name, and all formulas follow
pub record AreRenamed (m : ColumnRename) (r : List ℕ → Rename) (w : Rewriting) (k : Columns)
    (s s' : Document) : Type 0 where
  pub whole : IsWhole s
  pub whole_after : IsWhole s'
  pub typed : AreColumns k s
  pub followed : IsFollowed m r w k s
  pub renamed : IsRenamed m w s s'

-- what formulas see of them has the column under its new name
abbrev pub RenamedSheetLaw : Type 0
RenamedSheetLaw = (m : ColumnRename) (r : List ℕ → Rename) (w : Rewriting) (k : Columns)
    (s s' : Document) → AreRenamed m r w k s s'
    → IsMovedSheet m r k (sheet_of s) (sheet_of s')
    × (length (sheet_of s').cells ≡ length (sheet_of s).cells)

-- each formula cell has its value under the new name of its column
abbrev pub RenamedValueLaw : Type 0
RenamedValueLaw = (m : ColumnRename) (r : List ℕ → Rename) (w : Rewriting) (k : Columns)
    (s s' : Document) → AreRenamed m r w k s s'
    → (t c : List ℕ) (row : ℕ) → IsPlain t → IsKept m t c
    → value_of s' t (moved m t c) row ≡ value_of s t c row

-- so the second with all values in place is the first with all values in place, and the new name
abbrev pub RenamedFillingLaw : Type 0
RenamedFillingLaw = (m : ColumnRename) (r : List ℕ → Rename) (w : Rewriting) (k : Columns)
    (s s' : Document) → AreRenamed m r w k s s' → IsRenamed m w (filled s) (filled s')
