-- Tables that hold the same in a row.
use Rattle.std.specs.Prelude.{ℕ, true, List, Option, Some, None, ◌≡◌, ⊤}
use Rattle.doc_model.specs.ByIds.{find_id}
use Rattle.doc_model.specs.Grid.{Grid, cell}
use Rattle.doc_model.specs.Rows.{has}

-- two tables hold the same in the row, under the same columns
pub record SameRow {C : Type 0} (id : C → List ℕ) (r : ℕ) (g h : Grid C) : Type 0 where
  pub columns : g.columns ≡ h.columns
  pub rows : has g.rows r ≡ has h.rows r
  pub cells : (d : C) → find_id id (id d) g.columns ≡ Some d → has g.rows r ≡ true
      → cell id g (id d) r ≡ cell id h (id d) r

-- neither is there, or both are and are so related
abbrev pub Both : {X : Type 0} → (X → X → Type 0) → Option X → Option X → Type 0
Both R None None = ⊤
Both R (Some x) (Some y) = R x y
Both R None (Some y) = ⊥
Both R (Some x) None = ⊥
