-- Sheets of which the second has a column under a new name, with formulas that follow.
use Rattle.std.specs.Prelude.{ℕ, List, Option, Some, None, ◌≡◌, ⊤, length, false}
use Rattle.cell_types.specs.declared.cell.CellId.{CellId}
use Rattle.formula_parse.specs.FormulaOf.{formula_of}
use Rattle.formula_parse.specs.Lexemes.{is_id}
use Rattle.formula_parse.specs.Tree.{Tree}
use Rattle.formula_eval.specs.Reader.{cell_at}
use Rattle.formula_records.specs.Recs.{Columns}
use Rattle.recalc.specs.Sheet.{Sheet, eval, evaluated}
use Rattle.rename_marks.specs.declared.column_rename.ColumnRename.{ColumnRename}
use Rattle.rename_texts.specs.Renamed.{Rename, renamed}
use Rattle.renamed_values.specs.HeldRecords.{IsPlain}
use Rattle.renamed_values.specs.SameEv.{AllFit, IsKept, moved}
use Rattle.renamed_values.specs.TypedSheet.{IsTypedSheet}

-- the tree of a text is that of the other, renamed, and its names are replaced as they have to be;
-- of a text without a tree so is the other
abbrev pub Follow : ColumnRename → Rename → Columns → List ℕ → Option Tree → Option Tree → Type 0
Follow m r k own None None = ⊤
Follow m r k own None (Some t) = ⊥
Follow m r k own (Some t) None = ⊥
Follow m r k own (Some t) (Some u) = AllFit m r k own t × (u ≡ renamed r t)

-- the same of two cells that may have formulas
abbrev pub FollowIn : ColumnRename → (List ℕ → Rename) → Columns → List ℕ → Option (List ℕ)
    → Option (List ℕ) → Type 0
FollowIn m r k own None None = ⊤
FollowIn m r k own None (Some f) = ⊥
FollowIn m r k own (Some f) None = ⊥
FollowIn m r k own (Some f) (Some g) = Follow m (r own) k own (formula_of f) (formula_of g)

-- a cell under the new name of its column
abbrev pub moved_cell : ColumnRename → CellId → CellId
moved_cell m c = cell_at c.table (moved m c.table c.column) c.row

-- so it is of all cells outside the metadata
pub record IsMovedSheet (m : ColumnRename) (r : List ℕ → Rename) (k : Columns)
    (s t : Sheet) : Type 0 where
  pub old : is_id m.old ≡ false
  pub new : is_id m.new ≡ false
  pub rows : (a : List ℕ) → IsPlain a → t.rows a ≡ s.rows a
  pub kind : (a n : List ℕ) → IsPlain a → IsKept m a n → t.kind a (moved m a n) ≡ s.kind a n
  pub base : (c : CellId) → IsPlain c.table → IsKept m c.table c.column
      → t.base (moved_cell m c) ≡ s.base c
  pub formula : (c : CellId) → IsPlain c.table → IsKept m c.table c.column
      → FollowIn m r k c.table (s.formula c) (t.formula (moved_cell m c))
  pub typed : IsTypedSheet k s

-- each cell has the same value with each fuel
abbrev pub SameSheetLaw : Type 0
SameSheetLaw = (m : ColumnRename) (r : List ℕ → Rename) (k : Columns) (s t : Sheet)
    → IsMovedSheet m r k s t → (n : ℕ) (c : CellId) → IsPlain c.table → IsKept m c.table c.column
    → eval n t (moved_cell m c) ≡ eval n s c

-- and the same evaluated value
abbrev pub SameValueLaw : Type 0
SameValueLaw = (m : ColumnRename) (r : List ℕ → Rename) (k : Columns) (s t : Sheet)
    → IsMovedSheet m r k s t → length t.cells ≡ length s.cells
    → (c : CellId) → IsPlain c.table → IsKept m c.table c.column
    → evaluated t (moved_cell m c) ≡ evaluated s c
