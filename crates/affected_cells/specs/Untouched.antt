-- Which formula cells a change of the sheet leaves alone.
use Rattle.std.specs.Prelude.{ℕ, Bool, false, ◌≡◌, ◌⊎◌, List, Some, None}
use Rattle.std.specs.List.{AllByRecursion}
use Rattle.cell_types.specs.declared.cell.CellId.{CellId}
use Rattle.cell_types.specs.declared.cell.Read.{Read}
use Rattle.cell_types.specs.declared.cell.Read.TheVariants.{Cell, Key, Rows}
use Rattle.recalc.specs.Cells.{cell_of}
use Rattle.recalc.specs.Sheet.{Sheet, IsListed, evaluated, reads}

-- s is the sheet before, t the sheet after, and affected says which formula cells may change
module _ (s t : Sheet) (affected : CellId → Bool) where
  -- a data cell that stays as it is, or a formula cell that is not affected
  abbrev pub IsUntouchedCell : CellId → Type 0
  IsUntouchedCell d =
      ((s.formula d ≡ None) × (t.formula d ≡ None) × (s.base d ≡ t.base d))
      ⊎ ((f : List ℕ) × (s.formula d ≡ Some f) × (t.formula d ≡ Some f) × (affected d ≡ false))

  abbrev pub IsUntouched : Read → Type 0
  IsUntouched (Cell d) = (s.kind d.table d.column ≡ t.kind d.table d.column) × IsUntouchedCell d
  IsUntouched (Key u c) = (s.kind u c ≡ t.kind u c) × ((r : ℕ) → IsUntouchedCell (cell_of u c r))
  IsUntouched (Rows u) = s.rows u ≡ t.rows u

  -- each formula cell that is not affected was there before, and nothing that it read is touched
  pub record IsClosed : Type 0 where
    pub was : (c : CellId) (f : List ℕ) → t.formula c ≡ Some f → affected c ≡ false
        → s.formula c ≡ Some f
    pub kind : (c : CellId) (f : List ℕ) → t.formula c ≡ Some f → affected c ≡ false
        → s.kind c.table c.column ≡ t.kind c.table c.column
    pub untouched : (c : CellId) (f : List ℕ) → t.formula c ≡ Some f → affected c ≡ false
        → AllByRecursion IsUntouched (reads s c)

-- a formula cell that is not affected keeps its value and its reads
abbrev pub UnaffectedLaw : Type 0
UnaffectedLaw =
    (s t : Sheet) (affected : CellId → Bool) → IsListed s → IsListed t → IsClosed s t affected
    → (c : CellId) (f : List ℕ) → t.formula c ≡ Some f → affected c ≡ false
    → (evaluated t c ≡ evaluated s c) × (reads t c ≡ reads s c)
