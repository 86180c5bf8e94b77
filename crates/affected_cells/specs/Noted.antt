-- Which formula cells a change of the sheet leaves alone, by what their runs note.
use Rattle.std.specs.Prelude.{ℕ, Bool, false, ◌≡◌, List, [], Option, Some, None, is_some}
use Rattle.std.specs.List.{AllByRecursion}
use Rattle.cell_types.specs.declared.cell.CellId.{CellId}
use Rattle.cell_types.specs.declared.cell.KeyItem.{KeyItem}
use Rattle.cell_types.specs.declared.cell.Read.TheVariants.{Cell, Key, Rows}
use Rattle.formula_eval.specs.declared.note.Note.{Note}
use Rattle.formula_eval.specs.declared.note.Note.TheVariants as note
use Rattle.formula_eval.specs.Lookup.{matched}
use Rattle.recalc.specs.Sheet.{Sheet, Values, IsListed, evaluated, over, run_of}
use Rattle.affected_cells.specs.Untouched.{IsUntouchedCell}

abbrev pub notes_by : Sheet → Values → CellId → Option (List ℕ) → List Note
notes_by s k c None = []
notes_by s k c (Some f) = (run_of (over s k) c f).notes

-- what the run of a cell's formula notes over the evaluated cells
abbrev pub notes : Sheet → CellId → List Note
notes s c = notes_by s (λ d. Some (evaluated s d)) c (s.formula c)

-- s is the sheet before, t the sheet after, and affected says which formula cells may change
module _ (s t : Sheet) (affected : CellId → Bool) where
  -- values before and after that are the same of formula cells that are not affected
  abbrev pub Agree : Values → Values → Type 0
  Agree v w = (d : CellId) (f : List ℕ) → t.formula d ≡ Some f → affected d ≡ false → v d ≡ w d

  -- the same rows meet the keys, whatever such values formula cells have
  abbrev pub IsUntouchedMet : List ℕ → List KeyItem → Type 0
  IsUntouchedMet u ks =
      (v w : Values) → Agree v w → matched (over s v) u ks ≡ matched (over t w) u ks

  -- of a table that is read, that it is there before and after, or neither
  abbrev pub IsUntouchedNote : Note → Type 0
  IsUntouchedNote (note.Read (Cell d)) =
      (s.kind d.table d.column ≡ t.kind d.table d.column) × IsUntouchedCell s t affected d
  IsUntouchedNote (note.Read (Key u c)) = s.kind u c ≡ t.kind u c
  IsUntouchedNote (note.Read (Rows u)) = is_some (s.rows u) ≡ is_some (t.rows u)
  IsUntouchedNote (note.All u) = s.rows u ≡ t.rows u
  IsUntouchedNote (note.Met u ks) = IsUntouchedMet u ks

  -- each formula cell that is not affected was there before, and nothing that its run noted is
  -- touched
  pub record IsClosedByNotes : Type 0 where
    pub was : (c : CellId) (f : List ℕ) → t.formula c ≡ Some f → affected c ≡ false
        → s.formula c ≡ Some f
    pub kind : (c : CellId) (f : List ℕ) → t.formula c ≡ Some f → affected c ≡ false
        → s.kind c.table c.column ≡ t.kind c.table c.column
    pub untouched : (c : CellId) (f : List ℕ) → t.formula c ≡ Some f → affected c ≡ false
        → AllByRecursion IsUntouchedNote (notes s c)

-- a formula cell that is not affected keeps its value and what its run notes
abbrev pub UnaffectedNotesLaw : Type 0
UnaffectedNotesLaw =
    (s t : Sheet) (affected : CellId → Bool) → IsListed s → IsListed t
    → IsClosedByNotes s t affected → (c : CellId) (f : List ℕ) → t.formula c ≡ Some f
    → affected c ≡ false → (evaluated t c ≡ evaluated s c) × (notes t c ≡ notes s c)
