-- That a change touches no other reads than is said of it.
use Rattle.std.specs.Prelude.{ℕ, ◌≡◌, ◌⊎◌, Bool, false, List, Some, None}
use Rattle.cell_types.specs.declared.cell.CellId.{CellId}
use Rattle.cell_types.specs.declared.cell.Read.{Read}
use Rattle.cell_types.specs.declared.cell.Read.TheVariants.{Cell, Key, Rows}
use Rattle.doc_model.specs.declared.action.DocAction.{DocAction}
use Rattle.doc_model.specs.Apply.{apply}
use Rattle.doc_model.specs.Document.{Document}
use Rattle.recalc.specs.Cells.{cell_of}
use Rattle.recalc.specs.Evaluated.{sheet_of}
use Rattle.recalc.specs.Sheet.{Sheet}
use Rattle.affected_cells.specs.Affected.{is_fresh_cell}
use Rattle.affected_cells.specs.Touched.{is_touched}

-- s is the sheet before, t the sheet after; `fresh` are the cells that the change itself affects,
-- `touched` the reads that it touches
module _ (s t : Sheet) (fresh : CellId → Bool) (touched : Read → Bool) where
  -- a cell tells the same before and after: a data cell what it holds, a formula cell its formula
  abbrev pub IsSameCell : CellId → Type 0
  IsSameCell d =
      ((s.formula d ≡ None) × (t.formula d ≡ None) × (s.base d ≡ t.base d))
      ⊎ ((f : List ℕ) × (s.formula d ≡ Some f) × (t.formula d ≡ Some f))

  -- what is not touched is the same
  pub record IsTouchedRight : Type 0 where
    pub was : (c : CellId) (f : List ℕ) → t.formula c ≡ Some f → fresh c ≡ false
        → s.formula c ≡ Some f
    pub kind : (c : CellId) (f : List ℕ) → t.formula c ≡ Some f → fresh c ≡ false
        → s.kind c.table c.column ≡ t.kind c.table c.column
    pub cell : (d : CellId) → touched (Cell d) ≡ false
        → (s.kind d.table d.column ≡ t.kind d.table d.column) × IsSameCell d
    pub key : (u k : List ℕ) → touched (Key u k) ≡ false
        → (s.kind u k ≡ t.kind u k) × ((r : ℕ) → IsSameCell (cell_of u k r))
    pub rows : (u : List ℕ) → touched (Rows u) ≡ false → s.rows u ≡ t.rows u

-- an action on a document
abbrev pub TouchesRight : Document → DocAction → Type 0
TouchesRight s a =
    IsTouchedRight (sheet_of s) (sheet_of (apply s a)) (is_fresh_cell s a) (is_touched s a)
