-- Rows of the tables of access rules, as the code keeps them and asks for them.
use Rattle.std.proofs.Common.{ℕ, zero, suc, ◌+◌, ◌<◌, ◌≤◌, Bool, true, false, cond, ◌&&◌, List, [], ◌≡◌, refl, sym, ap, ◌∙◌, Option, Some, None, option_map, Bor, add-one, ltb, arith}
use Rattle.std.proofs.lemmas.Bool.{ltb-true, ltb-false}
use Rattle.std.specs.Option.{option_copied}
use Rattle.std.specs.Str.{bytes_eq}
use Rattle.cell_types.specs.declared.value.CellValue.{CellValue}
use Rattle.cell_types.specs.declared.value.CellValue.TheVariants.{Null}
use Rattle.doc_model.specs.declared.view.ViewTable.{ViewTable}
use Rattle.doc_model.specs.Changes.{grid}
use Rattle.doc_model.specs.Grid.{beside}
use Rattle.doc_model.specs.ViewEdits.{shown_id}
use Rattle.doc_model.proofs.Choices.{both_true}
use Rattle.plain_view.specs.Cells.{row_cells}
use Rattle.user_objections.specs.RowsKept.{before_kept}
use Rattle.user_objections.specs.RuleRows.{all_below, cell_before}

-- the cells that are kept tell what was there before
pub kept_before : (t : ViewTable) (kept : Option (Bor (List CellValue))) (row : Option ℕ) → option_copied kept ≡ option_map (row_cells (grid t)) row → before_kept t kept ≡ cell_before t row
kept_before t None None h = refl
kept_before t None (Some r) h = absurd (cc)
kept_before t (Some cells) None h = absurd (cc)
kept_before t (Some cells) (Some r) h =
    let same : Some cells.now ≡ Some (row_cells (grid t) r) = h in
    ap (λ (o : Option (List CellValue)). λ (column : List ℕ). beside (λ d. bytes_eq (shown_id d) column) t.columns (elim o as (λ _. List CellValue) [ None ↦ [] | Some row ↦ row ]) Null) same

-- one more number passes
pub below_next : (test : ℕ → Bool) (n : ℕ) → all_below test n ≡ true → test n ≡ true → all_below test (n + 1) ≡ true
below_next test n before is = ap (all_below test) (add-one n) ∙ both_true (all_below test n) (test n) before is

and_false : (b c : Bool) → c ≡ false → (b && c) ≡ false
and_false true c h = h
and_false false c h = refl

-- or one does not
pub below_fails : (test : ℕ → Bool) (n count : ℕ) → n < count → test n ≡ false → all_below test count ≡ false
below_fails test n zero lt fails = absurd (omega (arith, lt))
below_fails test n (suc count) lt fails =
    elim (ltb n count) as (λ b. ltb n count ≡ b → (all_below test count && test count) ≡ false) [
      | true ↦ λ is. ap (λ b. b && test count) (below_fails test n count (ltb-true n count is) fails)
      | false ↦ λ is.
          let le : count ≤ n = ltb-false n count is in
          let last : count ≡ n = omega (arith, lt, le) in
          and_false (all_below test count) (test count) (ap test last ∙ fails)
    ] refl
