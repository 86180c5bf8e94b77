-- One turn at the stack, and the work on one cell.
use Rattle.std.specs.Prelude.{◌≡◌, ◌<◌, true, false, List, []}
use Rattle.std.specs.Option.{is_some}
use Rattle.cell_types.specs.declared.cell.CellId.{CellId}
use Rattle.recalc.specs.Sheet.{Sheet, Values}
use Rattle.recalc.specs.Stack.{IsWorking, is_fresh, work}

-- a turn keeps what is known or on the stack, and leaves less to do
pub record IsTurn (s : Sheet) (k : Values) (stack : List CellId) (j : Values) (next : List CellId) :
    Type 0 where
  pub working : IsWorking s j next
  pub less : work s j next < work s k stack
  pub handled : (c : CellId) → is_fresh k stack c ≡ false → is_fresh j next c ≡ false

-- the work on one cell: it, and what was known at first, is known or on the stack
pub record IsSettling (s : Sheet) (first : Values) (cell : CellId) (j : Values)
    (stack : List CellId) : Type 0 where
  pub working : IsWorking s j stack
  pub here : is_fresh j stack cell ≡ false
  pub stays : (c : CellId) → is_fresh first [] c ≡ false → is_fresh j stack c ≡ false

-- what is known stays known
abbrev pub StaysKnown : Values → Values → Type 0
StaysKnown k j = (c : CellId) → is_some (k c) ≡ true → is_some (j c) ≡ true
