-- The stack of cells whose value is being found.
use Rattle.std.specs.Prelude.{ℕ, suc, ◌+◌, ◌≡◌, Bool, false, cond, not, ◌&&◌, List, [], ◌∷◌, ⊤, Some, None}
use Rattle.std.specs.Option.{is_some}
use Rattle.std.specs.List.{list_any}
use Rattle.cell_types.specs.declared.cell.CellId.{CellId}
use Rattle.cell_types.specs.declared.value.CellValue.{CellValue}
use Rattle.formula_eval.specs.Reader.{needed}
use Rattle.recalc.specs.Sheet.{Sheet, Values, IsListed, eval, evaluated}
use Rattle.recalc.specs.Cells.{same_cell}

-- each formula cell is listed, and a cell without a formula is never needed
pub record IsSheet (s : Sheet) : Type 0 where
  pub listed : IsListed s
  pub told : (c : CellId) → s.base c ≡ needed → ⊥

-- what is known is right
abbrev pub IsSound : Sheet → Values → Type 0
IsSound s k = (c : CellId) (v : CellValue) → k c ≡ Some v → evaluated s c ≡ v

-- the first has no value while the second has none
abbrev pub Waits : Sheet → CellId → CellId → Type 0
Waits s c d = (n : ℕ) → eval n s d ≡ None → eval (suc n) s c ≡ None

-- each cell waits for the next
abbrev pub IsChain : Sheet → List CellId → Type 0
IsChain s [] = ⊤
IsChain s (c ∷ []) = ⊤
IsChain s (c ∷ d ∷ ds) = Waits s c d × IsChain s (d ∷ ds)

-- a formula cell whose value is not known
abbrev pub IsOpen : Sheet → Values → CellId → Type 0
IsOpen s k c = ((f : List ℕ) × (s.formula c ≡ Some f)) × (k c ≡ None)

abbrev pub on : List CellId → CellId → Bool
on stack c = list_any (λ d. same_cell d c) stack

-- each is open, and on the stack once
abbrev pub AreOpen : Sheet → Values → List CellId → Type 0
AreOpen s k [] = ⊤
AreOpen s k (c ∷ cs) = IsOpen s k c × (on cs c ≡ false) × AreOpen s k cs

pub record IsWorking (s : Sheet) (k : Values) (stack : List CellId) : Type 0 where
  pub sound : IsSound s k
  pub each_open : AreOpen s k stack
  pub chain : IsChain s stack

abbrev pub one : Bool → ℕ
one b = cond b 1 0

-- how many of the cells pass
abbrev pub count : (CellId → Bool) → List CellId → ℕ
count p [] = 0
count p (c ∷ cs) = one (p c) + count p cs

abbrev pub is_open : Values → CellId → Bool
is_open k c = not (is_some (k c))

abbrev pub is_fresh : Values → List CellId → CellId → Bool
is_fresh k stack c = not (is_some (k c)) && not (on stack c)

-- what is left to do: cells without a value, and those of them that are not on the stack
abbrev pub work : Sheet → Values → List CellId → ℕ
work s k stack = count (is_open k) s.cells + count (is_fresh k stack) s.cells
