-- What is seen after changes of noted cells, cell by cell.
use Rattle.std.proofs.Common.{◌≡◌, ◌∙◌, ℕ, Bool, true, false, not, cond, ◌||◌, ◌&&◌, List, [], ◌∷◌, map, filter, Some, is_some, unwrap_or, refl, ap}
use Rattle.std.proofs.lemmas.Bool.{and_parts, eqb-true}
use Rattle.std.proofs.lemmas.Slice.Eq.{bytes_eq-Decides}
use Rattle.std.specs.Str.{bytes_eq}
use Rattle.std.specs.Prelude.{nat_eq}
use Rattle.cell_types.specs.declared.cell.CellId.{CellId}
use Rattle.cell_types.specs.declared.value.CellValue.{CellValue}
use Rattle.cell_types.specs.declared.value.CellValue.TheVariants.{Null}
use Rattle.doc_model.specs.Document.{Document}
use Rattle.doc_model.specs.Readers.{cell_at}
use Rattle.recalc.specs.Cells.{cell_of}
use Rattle.shot_cells.specs.Changes.{seen_after, seen_from}
use Rattle.shot_cells.specs.Places.{ByCell, is_cell, with_all}
use Rattle.shot_cells.specs.declared.changes.CellChanges.{CellChanges}
use Rattle.shot_changes.specs.NotedCells.{AreChanges, has_cell, is_there, value_in}

module _ (t k : List ℕ) (r : ℕ) where
  pub cell_is : (c : CellId) → is_cell c t k r ≡ true → c ≡ cell_of t k r
  cell_is c is =
      let one = and_parts (bytes_eq c.table t) (bytes_eq c.column k && nat_eq c.row r) is in
      let two = and_parts (bytes_eq c.column k) (nat_eq c.row r) one.1 in
      ap (λ n. cell_of n c.column c.row) ((bytes_eq-Decides c.table t).0 one.0)
      ∙ ap (λ n. cell_of t n c.row) ((bytes_eq-Decides c.column k).0 two.0)
      ∙ ap (cell_of t k) (eqb-true c.row r two.1)

  -- a cell is among those that pass where it passes itself
  module _ (p : CellId → Bool) where
    both : (h g : Bool) → cond h true (h && g) ≡ (h && true)
    both true g = refl
    both false g = refl

    step : (b q here f g : Bool) → (b ≡ true → q ≡ here) → f ≡ (here && g) → cond q (b || f) f ≡ (here && (b || g))
    step true q here f g own rest = ap (λ x. cond x true f) (own refl) ∙ ap (λ x. cond here true x) rest ∙ both here g
    step false true here f g own rest = rest
    step false false here f g own rest = rest

    kept : (q : Bool) (c : CellId) (cs : List CellId) → has_cell (cond q (c ∷ cs) cs) t k r ≡ cond q (is_cell c t k r || has_cell cs t k r) (has_cell cs t k r)
    kept true c cs = refl
    kept false c cs = refl

    nowhere : (b : Bool) → false ≡ (b && false)
    nowhere true = refl
    nowhere false = refl

    pub has-filter : (cs : List CellId) → has_cell (filter p cs) t k r ≡ (p (cell_of t k r) && has_cell cs t k r)
    has-filter [] = nowhere (p (cell_of t k r))
    has-filter (c ∷ cs) =
        kept (p c) c (filter p cs)
        ∙ step (is_cell c t k r) (p c) (p (cell_of t k r)) (has_cell (filter p cs) t k r) (has_cell cs t k r) (λ is. ap p (cell_is c is)) (has-filter cs)

  module _ (d : Document) where
    -- where each cell is set to what it holds
    with_values : (cs : List CellId) (f : ByCell CellValue) → with_all cs (map (value_in d) cs) f t k r ≡ cond (has_cell cs t k r) (unwrap_or (cell_at d t k r) Null) (f t k r)
    with_values [] f = refl
    with_values (c ∷ cs) f =
        elim (is_cell c t k r) as (λ b. is_cell c t k r ≡ b
        → cond b (value_in d c) (with_all cs (map (value_in d) cs) f t k r) ≡ cond (b || has_cell cs t k r) (unwrap_or (cell_at d t k r) Null) (f t k r)) [
          | true ↦ λ is. ap (value_in d) (cell_is c is)
          | false ↦ λ _. with_values cs f
        ] refl

    -- a cell that is there holds what it does where it is told of, or else what was seen
    pub seen_is : (is_anew : Bool) (told : List CellId) (c : CellChanges) → AreChanges is_anew d told c → (seen : ByCell CellValue) (x : CellValue) → cell_at d t k r ≡ Some x
        → seen_after c seen t k r ≡ cond (has_cell told t k r) x (seen_from c seen t k r)
    seen_is is_anew told c are seen x at =
        let f : ByCell CellValue = seen_from c seen in
        let there : is_there d (cell_of t k r) ≡ true = ap is_some at in
        let gone : has_cell c.gone.items t k r ≡ false
        = ap (λ cs. has_cell cs t k r) are.gone ∙ has-filter (λ c. not (is_there d c)) told ∙ ap (λ b. not b && has_cell told t k r) there in
        let cells : has_cell (filter (is_there d) told) t k r ≡ has_cell told t k r = has-filter (is_there d) told ∙ ap (λ b. b && has_cell told t k r) there in
        ap (λ b. cond b Null (with_all c.cells.items c.values.items f t k r)) gone
        ∙ ap (λ cs. with_all cs c.values.items f t k r) are.cells
        ∙ ap (λ vs. with_all (filter (is_there d) told) vs f t k r) are.values
        ∙ with_values (filter (is_there d) told) f
        ∙ ap (λ b. cond b (unwrap_or (cell_at d t k r) Null) (f t k r)) cells
        ∙ ap (λ o. cond (has_cell told t k r) (unwrap_or o Null) (f t k r)) at
