-- Cells in rows and columns. A column is known by its id, a row by its number.
use Rattle.std.specs.Prelude.{ℕ, Bool, cond, nat_eq, List, [], ◌∷◌, map, ◌≡◌, length}
use Rattle.std.specs.List.{AllByRecursion}
use Rattle.std.specs.Str.{bytes_eq}
use Rattle.cell_types.specs.declared.value.CellValue.{CellValue}
use Rattle.cell_types.specs.declared.value.CellValue.TheVariants.{Null}
use Rattle.doc_model.specs.ByIds.{AreDistinct}
use Rattle.doc_model.specs.Rows.{IsAscending}

-- columns, rows, and each row's cells in the order of the columns
pub record Grid (C : Type 0) : Type 0 where
  pub columns : List C
  pub rows : List ℕ
  pub cells : List (List CellValue)

-- the thing that stands beside the first key that passes, or the last argument
abbrev pub beside : {K V : Type 0} → (K → Bool) → List K → List V → V → V
beside test [] vs d = d
beside test (k ∷ ks) [] d = d
beside test (k ∷ ks) (v ∷ vs) d = cond (test k) v (beside test ks vs d)

module _ {C : Type 0} where
  -- the grid with these columns and rows, and the cells that f gives
  abbrev pub grid_of : List C → List ℕ → (C → ℕ → CellValue) → Grid C
  grid_of columns rows f =
      record { columns = columns; rows = rows; cells = map (λ r. map (λ d. f d r) columns) rows }

  module _ (id : C → List ℕ) where
    -- the cell of a column and a row; Null where there is none
    abbrev pub cell : Grid C → List ℕ → ℕ → CellValue
    cell g c r =
        beside (λ d. bytes_eq (id d) c) g.columns (beside (λ q. nat_eq q r) g.rows g.cells []) Null

    -- column ids are distinct, rows ascend, and there is one cell for each row and column
    pub record IsGrid (g : Grid C) : Type 0 where
      pub distinct : AreDistinct id g.columns
      pub ascending : IsAscending g.rows
      pub height : length g.cells ≡ length g.rows
      pub width : AllByRecursion (λ row. length row ≡ length g.columns) g.cells
