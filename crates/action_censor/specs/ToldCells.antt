-- The cells that steps tell of, by row.
use Rattle.std.specs.Prelude.{ℕ, List, [], ◌∷◌, ◌++◌, map, filter, nat_eq, Option, Some, None, Vec, unwrap_or}
use Rattle.std.specs.Global.{Global}
use Rattle.std.specs.HashMap.{HashMap, get}
use Rattle.cell_types.specs.declared.cell.CellOld.{CellOld}
use Rattle.doc_model.specs.declared.column.ColDef.{ColDef}
use Rattle.doc_model.specs.Column.{column_id}
use Rattle.doc_model.specs.Grid.{Grid, cell}
use Rattle.acl_formula.specs.RuleFields.{cell_in}
use Rattle.acl_formula.specs.declared.user_info.NamedCell.{NamedCell}
use Rattle.action_censor.specs.Step.{Step, is_in_row}

-- the column of a cell, with what it held
abbrev pub told_cell : CellOld → NamedCell
told_cell o = record { column = o.cell.column; value = o.old }

-- those of these cells that stand in the row of a table
abbrev pub told_in_row : List ℕ → ℕ → List CellOld → List NamedCell
told_in_row t r cells = map told_cell (filter (is_in_row t r) cells)

-- those that steps tell of, the first step's first
abbrev pub told_of_row : List Step → List ℕ → ℕ → List NamedCell
told_of_row [] t r = []
told_of_row (k ∷ ks) t r = told_in_row t r k.cells ++ told_of_row ks t r

abbrev pub listed : Option (Vec NamedCell Global) → List NamedCell
listed None = []
listed (Some cells) = cells.items

-- what is noted under a row
abbrev pub cells_at : {S : Type 0} → HashMap ℕ (Vec NamedCell Global) S → ℕ → List NamedCell
cells_at noted r = listed (get nat_eq noted r)

-- a cell as it was: as it is told of, or else as it is
abbrev pub old_cell : List NamedCell → Grid ColDef → ℕ → ColDef → NamedCell
old_cell told g r d =
    record { column = d.id; value = unwrap_or (cell_in told d.id) (cell column_id g d.id r) }
