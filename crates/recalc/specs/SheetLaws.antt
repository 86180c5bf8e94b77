-- The laws of evaluated cells.
use Rattle.std.specs.Prelude.{ℕ, ◌≡◌, ◌≤◌, length, Some, None, ◌↔◌}
use Rattle.cell_types.specs.declared.cell.CellId.{CellId}
use Rattle.cell_types.specs.declared.value.CellValue.{CellValue}
use Rattle.cell_types.specs.declared.value.CellValue.TheVariants.{Err}
use Rattle.cell_types.specs.declared.value.ErrKind.TheVariants.{Circular}
use Rattle.recalc.specs.Sheet.{Sheet, IsListed, eval, evaluated}

-- more fuel changes no value
abbrev pub FuelLaw : Type 0
FuelLaw =
    (s : Sheet) (c : CellId) (v : CellValue) (m n : ℕ) → m ≤ n → eval m s c ≡ Some v
    → eval n s c ≡ Some v

-- what some fuel gives comes with as much fuel as there are formula cells
abbrev pub SettledLaw : Type 0
SettledLaw =
    (s : Sheet) → IsListed s → (c : CellId) (v : CellValue) (n : ℕ) → eval n s c ≡ Some v
    → eval (length s.cells) s c ≡ Some v

-- a cell's value is what some fuel gives
abbrev pub ValueLaw : Type 0
ValueLaw =
    (s : Sheet) → IsListed s → (c : CellId) (v : CellValue) (n : ℕ) → eval n s c ≡ Some v
    → evaluated s c ≡ v

-- a cell is circular exactly where no fuel gives it a value
abbrev pub CircularLaw : Type 0
CircularLaw =
    (s : Sheet) → IsListed s → (c : CellId)
    → (evaluated s c ≡ Err Circular) ↔ ((n : ℕ) → eval n s c ≡ None)
