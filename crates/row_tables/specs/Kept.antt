-- The cells that a table keeps.
use Rattle.std.specs.Prelude.{ℕ, Bool, cond, nat_eq, List, [], ◌∷◌, Option, Some, None}
use Rattle.std.specs.Str.{bytes_eq}
use Rattle.cell_types.specs.declared.value.CellValue.{CellValue}
use Rattle.doc_model.specs.declared.column.ColDef.{ColDef}
use Rattle.doc_model.specs.Column.{column_id}
use Rattle.doc_model.specs.Grid.{Grid, beside}

-- the item that stands beside the first key that passes, where there is one
abbrev pub found_beside : {K V : Type 0} → (K → Bool) → List K → List V → Option V
found_beside test [] vs = None
found_beside test (k ∷ ks) [] = None
found_beside test (k ∷ ks) (v ∷ vs) = cond (test k) (Some v) (found_beside test ks vs)

-- the cell of a column and a row, where the grid has one
abbrev pub kept : Grid ColDef → List ℕ → ℕ → Option CellValue
kept g c r =
    found_beside (λ d. bytes_eq (column_id d) c) g.columns
    (beside (λ q. nat_eq q r) g.rows g.cells [])
