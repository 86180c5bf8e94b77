-- What leads back over an update.
use Rattle.std.proofs.Common.{ℕ, true, cond, List, ◌≡◌, refl, sym, ap, ◌∙◌, Option, Some, None, unwrap_or}
use Rattle.std.proofs.lemmas.Bool.{false≢true}
use Rattle.std.specs.Option.{is_some}
use Rattle.cell_types.specs.declared.cell.CellId.{CellId}
use Rattle.doc_model.specs.declared.action.DocAction.TheVariants.{BulkUpdate}
use Rattle.doc_model.specs.Apply.{apply}
use Rattle.doc_model.specs.Document.{Document}
use Rattle.recalc.specs.declared.kept.KeptTable.{KeptTable}
use Rattle.recalc.specs.Evaluated.{formula_at, sheet_of, value_of}
use Rattle.recalc.specs.Kept.{IsEvaluated, held_at}
use Rattle.recalc.specs.Sheet.{evaluated}
use Rattle.affected_cells.proofs.UpdateTouches.{after, same_formula}
use Rattle.affected_values.specs.Taken.{taken_of}
use Rattle.affected_values.specs.WaysBack.{LeadsOverLaw, WayBackLaw}
use Rattle.affected_values.proofs.SamePlaces.{same_places}

-- the value that is kept of a formula cell
pub kept_value : (s : Document) (ks : List KeptTable) → IsEvaluated s ks → (c : CellId) → is_some (formula_at s c) ≡ true → held_at s ks c ≡ Some (evaluated (sheet_of s) c)
unfolding value_of
kept_value s ks known c there = by (formula_at s c) refl there
  where
    by : (o : Option (List ℕ)) → formula_at s c ≡ o → is_some o ≡ true → held_at s ks c ≡ Some (evaluated (sheet_of s) c)
    by None e h = absurd (false≢true h)
    by (Some f) e h = known.values c f e

pub leads_over : LeadsOverLaw
leads_over s t rows ks taken new old ok before now leads = record {
  there = λ c h. there c h;
  values = λ c h. ap (unwrap_or (taken_of taken c)) (sym (kept_value _ new now c (there c h))) ∙ leads c (there c h)
      ∙ (same_places s t rows ks old).held c ∙ kept_value s old before c h;
}
  where
    there : (c : CellId) → is_some (formula_at s c) ≡ true → is_some (formula_at (apply s (BulkUpdate t rows ks)) c) ≡ true
    there c h = ap (λ b. is_some (formula_at (cond b (after t rows ks s) s) c)) ok ∙ ap is_some (same_formula t rows ks s c) ∙ h

pub way_back : WayBackLaw
unfolding value_of
way_back s t rows ks taken now back leads known kept put = record {
  of_document = kept;
  values = λ c f e. value c (ap is_some e);
}
  where
    value : (c : CellId) → is_some (formula_at s c) ≡ true → held_at s back c ≡ Some (value_of s c.table c.column c.row)
    value c h =
        put c h ∙ ap (unwrap_or (taken_of taken c)) (sym ((same_places s t rows ks now).held c) ∙ kept_value _ now known c (leads.there c h)) ∙ leads.values c h
