-- The cells that are kept of a row: those of some columns.
use Rattle.std.specs.Prelude.{ℕ, List, [], ◌∷◌, Option, Some, None}
use Rattle.cell_types.specs.declared.value.CellValue.{CellValue}
use Rattle.doc_model.specs.Document.{Document}
use Rattle.doc_model.specs.Readers.{cell_at}
use Rattle.acl_formula.specs.declared.user_info.NamedCell.{NamedCell}

-- a cell before others, where it is there
abbrev pub with_cell : List ℕ → Option CellValue → List NamedCell → List NamedCell
with_cell n None cells = cells
with_cell n (Some v) cells = record { column = n; value = v } ∷ cells

-- the cells of a row in these columns, those that are there
abbrev pub kept_cells : Document → List ℕ → ℕ → List (List ℕ) → List NamedCell
kept_cells s table r [] = []
kept_cells s table r (n ∷ names) =
    with_cell n (cell_at s table n r) (kept_cells s table r names)
