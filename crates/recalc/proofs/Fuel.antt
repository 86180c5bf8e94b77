-- More fuel changes no value.
use Rattle.std.proofs.Common.{ℕ, zero, suc, ◌≤◌, List, ◌≡◌, ◌⊎◌, inl, inr, refl, sym, ap, ◌∙◌, subst, Option, Some, None, arith}
use Rattle.cell_types.specs.declared.cell.CellId.{CellId}
use Rattle.cell_types.specs.declared.value.CellValue.{CellValue}
use Rattle.formula_eval.specs.Reader.{known}
use Rattle.formula_eval.specs.Run.{Stop, Out, gives, raises, stops}
use Rattle.formula_eval.specs.Reading.{told_out}
use Rattle.formula_eval.specs.Likeness.{StopsBy, IsAlikeOut}
use Rattle.recalc.specs.Sheet.{Sheet, Values, told_by, over, run_of, value_by, step, eval}
use Rattle.recalc.specs.SheetLaws.{FuelLaw}
use Rattle.recalc.proofs.Over.{same_out, IsAlikeCell, over_alike, finished_same, finished_stop}

-- the second knows what the first knows
abbrev pub Extends : Values → Values → Type 0
Extends k j = (c : CellId) (v : CellValue) → k c ≡ Some v → j c ≡ Some v

abbrev pub any_stop : Stop → Type 0
any_stop s = Unit {0}

pub none_some : {X : Type 0} {x : X} → ◌≡◌ {A = Option X} None (Some x) → ⊥
none_some e = cc

module _ (s : Sheet) (k j : Values) (more : Extends k j) where
  extends_cell : (c : CellId) → IsAlikeCell any_stop ⊥ s k j c
  extends_cell c f =
      elim (k c) as (λ o. k c ≡ o → IsAlikeOut any_stop ⊥ (told_out c (told_by (Some f) (s.base c) o)) (told_out c (told_by (Some f) (s.base c) (j c)))) [
        | None ↦ λ e. inr (inl tt)
        | Some v ↦ λ e. same_out any_stop ⊥ (told_out c (known v)) (told_out c (told_by (Some f) (s.base c) (j c))) (ap (λ o. told_out c (told_by (Some f) (s.base c) o)) (sym (more c v e)))
      ] refl

  value_more : (c : CellId) (o : Option (List ℕ)) (v : CellValue) → value_by s k c o ≡ Some v → value_by s j c o ≡ Some v
  value_more c None v e = e
  value_more c (Some f) v e =
      elim (over_alike any_stop ⊥ s k j (λ cs ds h g. tt) extends_cell c f) [
        | inl h ↦ sym (finished_same (s.kind c.table c.column) (run_of (over s k) c f).out (run_of (over s j) c f).out h.0) ∙ e
        | inr h ↦ elim h [
          | inl g ↦ absurd (none_some (sym (finished_stop any_stop (s.kind c.table c.column) (run_of (over s k) c f).out g.0) ∙ e))
          | inr g ↦ absurd (right_none (run_of (over s j) c f).out g.0)
        ]
      ]
    where
      right_none : (o : Out CellValue) → StopsBy (λ _. ⊥) o → ⊥
      right_none (gives v) h = h
      right_none (raises v) h = h
      right_none (stops v) h = h

  -- one more step keeps what is known
  pub step_extends : Extends (step s k) (step s j)
  step_extends c v e = value_more c (s.formula c) v e

pub fuel_one : (n : ℕ) (s : Sheet) → Extends (eval n s) (eval (suc n) s)
fuel_one zero s c v e = absurd (none_some e)
fuel_one (suc n) s c v e = step_extends s (eval n s) (eval (suc n) s) (fuel_one n s) c v e

pub fuel_law : FuelLaw
fuel_law s c v m zero h e = subst (λ i. eval i s c ≡ Some v) (le_zero m h) e
  where
    le_zero : (m : ℕ) → m ≤ 0 → m ≡ 0
    le_zero m h = omega arith
fuel_law s c v m (suc n) h e =
    elim (split m n h) [ inl p ↦ subst (λ i. eval i s c ≡ Some v) p e | inr q ↦ fuel_one n s c v (fuel_law s c v m n q e) ]
  where
    split : (m n : ℕ) → m ≤ suc n → (m ≡ suc n) ⊎ (m ≤ n)
    split m n h = grind arith
