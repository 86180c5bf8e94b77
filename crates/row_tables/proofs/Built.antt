-- A table built anew.
use Rattle.std.proofs.Common.{ℕ, List, ◌≡◌, subst}
use Rattle.cell_types.specs.declared.value.CellValue.{CellValue}
use Rattle.doc_model.specs.declared.column.ColDef.{ColDef}
use Rattle.doc_model.specs.Grid.{grid_of}
use Rattle.doc_model.specs.Document.{Table}

-- the table with these columns and rows, and the cells that f gives
abbrev pub built : Table → List ColDef → List ℕ → (ColDef → ℕ → CellValue) → Table
built t cs rs f = record { id = t.id; row = t.row; grid = grid_of cs rs f }

-- what holds of these columns and rows holds of those that they are
pub carried : (P : List ColDef → List ℕ → Type 0) (cs cs' : List ColDef) (rs rs' : List ℕ) → cs ≡ cs' → rs ≡ rs' → P cs rs → P cs' rs'
carried P cs cs' rs rs' ec er h = subst (P cs') er (subst (λ c. P c rs) ec h)
