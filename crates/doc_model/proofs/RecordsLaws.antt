-- What record actions give, and what they leave.
use Rattle.std.proofs.Common.{ℕ, true, false, cond, not, ◌||◌, List, [], ◌∷◌, map, ◌≡◌, refl, ap, ◌∙◌, Option, Some, None, unwrap_or, eqb}
use Rattle.std.proofs.lemmas.Bool.{true≢false, eqb-true}
use Rattle.std.proofs.lemmas.Slice.Eq.{bytes_eq-Decides}
use Rattle.std.specs.Str.{bytes_eq}
use Rattle.cell_types.specs.declared.value.CellValue.{CellValue}
use Rattle.doc_model.specs.declared.column.CellColumn.{CellColumn}
use Rattle.doc_model.specs.ByIds.{has_id}
use Rattle.doc_model.specs.Rows.{has, insert_rows, without}
use Rattle.doc_model.specs.Grid.{Grid, IsGrid, cell}
use Rattle.doc_model.specs.Records.{or_else, value_for, given, given_id, add_rows, update_rows, remove_rows, column_of}
use Rattle.doc_model.proofs.RowsLaws.{IsAscending-insert_rows, IsAscending-filter}
use Rattle.doc_model.proofs.GridLaws.{IsGrid-grid_of}

or_else_none : {X : Type 0} (o : Option X) → or_else o None ≡ o
or_else_none None = refl
or_else_none (Some x) = refl

-- the value beside a row, where each row has one
pub value_for-map : (rows : List ℕ) (f : ℕ → CellValue) (r : ℕ) → value_for rows (map f rows) r ≡ cond (has rows r) (Some (f r)) None
value_for-map [] f r = refl
value_for-map (q ∷ rows) f r =
    ap (λ o. or_else o (cond (eqb q r) (Some (f q)) None)) (value_for-map rows f r)
    ∙ elim (eqb q r) as (λ b. eqb q r ≡ b → or_else (cond (has rows r) (Some (f r)) None) (cond b (Some (f q)) None) ≡ cond (b || has rows r) (Some (f r)) None) [
      | true ↦ λ is. ap (λ p. or_else (cond (has rows r) (Some (f r)) None) (Some (f p))) (eqb-true q r is)
          ∙ elim (has rows r) as (λ h. or_else (cond h (Some (f r)) None) (Some (f r)) ≡ Some (f r)) [ true ↦ refl | false ↦ refl ]
      | false ↦ λ _. or_else_none (cond (has rows r) (Some (f r)) None)
    ] refl

-- a row that is not there has no value
pub value_for_absent : (rows : List ℕ) (vs : List CellValue) (r : ℕ) → has rows r ≡ false → value_for rows vs r ≡ None
value_for_absent [] vs r n = refl
value_for_absent (q ∷ rows) [] r n = refl
value_for_absent (q ∷ rows) (v ∷ vs) r n =
    elim (eqb q r) as (λ b. (b || has rows r) ≡ false → or_else (value_for rows vs r) (cond b (Some v) None) ≡ None) [
      | true ↦ λ n. absurd (true≢false n)
      | false ↦ λ n. or_else_none (value_for rows vs r) ∙ value_for_absent rows vs r n
    ] n

pub given_absent : (rows : List ℕ) (ks : List CellColumn) (c : List ℕ) (r : ℕ) → has rows r ≡ false → given rows ks c r ≡ None
given_absent rows [] c r n = refl
given_absent rows (k ∷ ks) c r n =
    ap (λ o. or_else o (cond (bytes_eq k.id c) (value_for rows k.values r) None)) (given_absent rows ks c r n)
    ∙ ap (λ o. cond (bytes_eq k.id c) o None) (value_for_absent rows k.values r n)
    ∙ elim (bytes_eq k.id c) as (λ b. ◌≡◌ {A = Option CellValue} (cond b None None) None) [ true ↦ refl | false ↦ refl ]

-- a column that is not named is given nothing
pub given_unnamed : (rows : List ℕ) (ks : List CellColumn) (c : List ℕ) (r : ℕ) → has_id given_id ks c ≡ false → given rows ks c r ≡ None
given_unnamed rows [] c r n = refl
given_unnamed rows (k ∷ ks) c r n =
    elim (bytes_eq k.id c) as (λ b. (b || has_id given_id ks c) ≡ false → or_else (given rows ks c r) (cond b (value_for rows k.values r) None) ≡ None) [
      | true ↦ λ n. absurd (true≢false n)
      | false ↦ λ n. or_else_none (given rows ks c r) ∙ given_unnamed rows ks c r n
    ] n

module _ {C : Type 0} (id : C → List ℕ) (g : Grid C) (rows : List ℕ) where
  -- what columns of a grid's own cells give
  pub given_own : {X : Type 0} (name : X → List ℕ) (xs : List X) (c : List ℕ) (r : ℕ) → has rows r ≡ true
      → given rows (map (λ x. column_of id g rows (name x)) xs) c r ≡ cond (has_id name xs c) (Some (cell id g c r)) None
  given_own name [] c r here = refl
  given_own name (x ∷ xs) c r here =
      ap (λ o. or_else o (cond (bytes_eq (name x) c) (value_for rows (map (cell id g (name x)) rows) r) None)) (given_own name xs c r here)
      ∙ ap (λ o. or_else (cond (has_id name xs c) (Some (cell id g c r)) None) (cond (bytes_eq (name x) c) o None))
      (value_for-map rows (cell id g (name x)) r ∙ ap (λ b. cond b (Some (cell id g (name x) r)) None) here)
      ∙ elim (bytes_eq (name x) c) as (λ b. bytes_eq (name x) c ≡ b
      → or_else (cond (has_id name xs c) (Some (cell id g c r)) None) (cond b (Some (cell id g (name x) r)) None) ≡ cond (b || has_id name xs c) (Some (cell id g c r)) None) [
        | true ↦ λ is. ap (λ n. or_else (cond (has_id name xs c) (Some (cell id g c r)) None) (Some (cell id g n r))) ((bytes_eq-Decides (name x) c).0 is)
            ∙ elim (has_id name xs c) as (λ h. or_else (cond h (Some (cell id g c r)) None) (Some (cell id g c r)) ≡ Some (cell id g c r)) [ true ↦ refl | false ↦ refl ]
        | false ↦ λ _. or_else_none (cond (has_id name xs c) (Some (cell id g c r)) None)
      ] refl

module _ {C : Type 0} (id : C → List ℕ) (start : C → CellValue) where
  pub IsGrid-add_rows : (rows : List ℕ) (ks : List CellColumn) (g : Grid C) → IsGrid id g → IsGrid id (add_rows id start rows ks g)
  IsGrid-add_rows rows ks g h =
      IsGrid-grid_of id g.columns (insert_rows rows g.rows) (λ d r. cond (has rows r) (unwrap_or (given rows ks (id d) r) (start d)) (cell id g (id d) r)) h.distinct (IsAscending-insert_rows rows g.rows h.ascending)

  pub IsGrid-update_rows : (rows : List ℕ) (ks : List CellColumn) (g : Grid C) → IsGrid id g → IsGrid id (update_rows id rows ks g)
  IsGrid-update_rows rows ks g h =
      IsGrid-grid_of id g.columns g.rows (λ d r. unwrap_or (given rows ks (id d) r) (cell id g (id d) r)) h.distinct h.ascending

  pub IsGrid-remove_rows : (rows : List ℕ) (g : Grid C) → IsGrid id g → IsGrid id (remove_rows id rows g)
  IsGrid-remove_rows rows g h =
      IsGrid-grid_of id g.columns (without rows g.rows) (λ d r. cell id g (id d) r) h.distinct (IsAscending-filter (λ r. not (has rows r)) g.rows h.ascending)
