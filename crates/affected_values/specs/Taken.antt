-- Values of cells that were taken out of their places.
use Rattle.std.specs.Prelude.{true, false, cond, List, [], ◌∷◌, Option, Some, None, unwrap_or, ◌≡◌}
use Rattle.std.specs.Option.{is_some}
use Rattle.cell_types.specs.declared.cell.CellId.{CellId}
use Rattle.cell_types.specs.declared.value.CellValue.{CellValue}
use Rattle.doc_model.specs.Document.{Document}
use Rattle.recalc.specs.declared.kept.KeptTable.{KeptTable}
use Rattle.recalc.specs.Cells.{same_cell}
use Rattle.recalc.specs.Evaluated.{formula_at, sheet_of}
use Rattle.recalc.specs.Kept.{held_at}
use Rattle.recalc.specs.Sheet.{Values, evaluated}
use Rattle.recalc.specs.Stack.{on}
use Rattle.affected_values.specs.declared.taking.HeldValue.{HeldValue}

-- what was first taken of the cell, where anything was
abbrev pub taken_of : List HeldValue → CellId → Option (Option CellValue)
taken_of [] c = None
taken_of (h ∷ taken) c = cond (same_cell h.cell c) (Some h.value) (taken_of taken c)

-- what is known of these cells was taken out, and what is known of each other cell is left
pub record IsTaken (cells : List CellId) (taken : List HeldValue) (old new : Values) : Type 0 where
  pub out : (c : CellId) → new c ≡ cond (on cells c) None (old c)
  pub each : (c : CellId) → is_some (taken_of taken c) ≡ on cells c
  pub back : (c : CellId) → unwrap_or (taken_of taken c) (new c) ≡ old c

-- the value of the cell is known, where it is a formula cell
abbrev pub IsHeldWhere : Document → List KeptTable → CellId → Type 0
IsHeldWhere s ks c = is_some (formula_at s c) ≡ true → is_some (held_at s ks c) ≡ true

-- so is that of each cell that was not taken
abbrev pub IsHeldBut : Document → List KeptTable → List HeldValue → Type 0
IsHeldBut s ks taken = (c : CellId) → is_some (taken_of taken c) ≡ false → IsHeldWhere s ks c

-- the value of each formula cell but these is known, and right
pub record IsRightBut (s : Document) (ks : List KeptTable) (cells : List CellId) : Type 0 where
  pub known : (c : CellId) → on cells c ≡ false → IsHeldWhere s ks c
  pub right : (c : CellId) (v : CellValue) → on cells c ≡ false → held_at s ks c ≡ Some v
      → evaluated (sheet_of s) c ≡ v

-- what was taken leads from what is known of formula cells to what was known
abbrev pub LeadsBack : Document → List HeldValue → List KeptTable → List KeptTable → Type 0
LeadsBack s taken new old = (c : CellId) → is_some (formula_at s c) ≡ true
    → unwrap_or (taken_of taken c) (held_at s new c) ≡ held_at s old c
