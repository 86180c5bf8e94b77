-- A circular cell is one without a value.
use Rattle.std.proofs.Common.{ℕ, zero, suc, false, List, length, ◌≡◌, refl, sym, ap, ◌∙◌, subst, Option, Some, None, unwrap_or}
use Rattle.std.proofs.lemmas.Bool.{true≢false}
use Rattle.cell_types.specs.declared.cell.CellId.{CellId}
use Rattle.cell_types.specs.declared.value.CellValue.{CellValue}
use Rattle.cell_types.specs.declared.value.CellValue.TheVariants as value
use Rattle.cell_types.specs.declared.value.ErrKind.TheVariants.{Circular}
use Rattle.cell_types.specs.declared.column_type.ColType.{ColType}
use Rattle.formula_eval.specs.Run.{Out, gives, raises, stops}
use Rattle.value_ops.specs.Raising.{IsValue, IsRaised}
use Rattle.formula_eval.specs.Obeys.{Obeys}
use Rattle.formula_eval.proofs.TextLaws.{text_obeys}
use Rattle.recalc.specs.Sheet.{Sheet, over, fit_in, finished, row_of, run_of, value_by, eval, evaluated}
use Rattle.recalc.specs.SheetLaws.{CircularLaw}
use Rattle.cell_types.specs.ConversionLaws.{is_error}
use Rattle.cell_types.proofs.NoErrorLemmas.{fit_no_error}
use Rattle.recalc.proofs.Fuel.{none_some}
use Rattle.recalc.proofs.Settled.{value_law}

no_error : (v : CellValue) → IsValue v → is_error v ≡ false
no_error value.Null h = refl
no_error (value.Int n) h = refl
no_error (value.Bool b) h = refl
no_error (value.Text t) h = refl
no_error (value.Date n) h = refl
no_error (value.Rec r) h = refl
no_error (value.RecSet s) h = refl
no_error (value.List items) h = refl
no_error (value.Err e) h = absurd h
no_error value.Censored h = refl

fit_in_no_error : (k : Option ColType) (v : CellValue) → is_error v ≡ false → is_error (fit_in k v) ≡ false
fit_in_no_error None v h = h
fit_in_no_error (Some k) v h = fit_no_error k v h

finished_never : (k : Option ColType) (o : Out CellValue) → Obeys IsValue o → finished k o ≡ Some (value.Err Circular) → ⊥
finished_never k (gives v) h e = true≢false (sym (ap is_error (same e)) ∙ fit_in_no_error k v (no_error v h))
  where
    same : Some (fit_in k v) ≡ Some (value.Err Circular) → fit_in k v ≡ value.Err Circular
    same e = cc
finished_never k (raises f) h e = subst IsRaised (kinds e) h
  where
    kinds : Some (value.Err f) ≡ Some (value.Err Circular) → f ≡ Circular
    kinds e = cc
finished_never k (stops s) h e = none_some e

never : (n : ℕ) (s : Sheet) (c : CellId) → eval n s c ≡ Some (value.Err Circular) → ⊥
never zero s c e = none_some e
never (suc n) s c e = by_formula (s.formula c) e
  where
    by_formula : (o : Option (List ℕ)) → value_by s (eval n s) c o ≡ Some (value.Err Circular) → ⊥
    by_formula None e = none_some e
    by_formula (Some f) e = finished_never (s.kind c.table c.column) (run_of (over s (eval n s)) c f).out (text_obeys (over s (eval n s)) (row_of c) f) e

pub circular_law : CircularLaw
circular_law s listed c = (lacking, λ h. ap (λ o. unwrap_or o (value.Err Circular)) (h (length s.cells)))
  where
    lacking : evaluated s c ≡ value.Err Circular → (n : ℕ) → eval n s c ≡ None
    lacking e n =
        elim (eval n s c) as (λ o. eval n s c ≡ o → o ≡ None) [
          | None ↦ λ w. refl
          | Some v ↦ λ w. absurd (never n s c (w ∙ ap (λ u. Some u) (sym (value_law s listed c v n w) ∙ e)))
        ] refl
