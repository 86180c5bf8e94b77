-- Changes of noted cells lead on.
use Rattle.std.proofs.Common.{◌≡◌, ◌∙◌, ℕ, Bool, true, false, not, cond, List, Option, Some, None, IsSome, is_some, refl, sym, ap}
use Rattle.std.specs.List.{flat_map}
use Rattle.cell_types.specs.declared.value.CellValue.{CellValue}
use Rattle.doc_model.specs.declared.action.DocAction.{DocAction}
use Rattle.doc_model.specs.Apply.{apply_all}
use Rattle.doc_model.specs.ByIds.{find_id}
use Rattle.doc_model.specs.Column.{column_id}
use Rattle.doc_model.specs.Document.{Document}
use Rattle.doc_model.specs.DocumentLaws.{IsWhole}
use Rattle.doc_model.specs.Readers.{cell_at}
use Rattle.doc_model.proofs.Choices.{both_true}
use Rattle.doc_model.proofs.InverseLaws.{IsWhole-apply_all}
use Rattle.doc_model.proofs.LaidOutLaws.{laid_out}
use Rattle.recalc.specs.Cells.{cell_of}
use Rattle.recalc.specs.Evaluated.{filled, filled_by, value_of}
use Rattle.action_censor.specs.Step.{Step, are_records}
use Rattle.bundle_traces.specs.TraceLaws.{TraceLaw, steps_done}
use Rattle.shot_cells.specs.Changes.{nothing_seen, seen_after, seen_from}
use Rattle.shot_cells.specs.Places.{ByCell}
use Rattle.shot_cells.specs.ShotDocument.{has_formula, is_formula_at}
use Rattle.shot_cells.specs.declared.changes.CellChanges.{CellChanges}
use Rattle.context_changes.specs.Bundle.{IsBundle}
use Rattle.shot_changes.specs.Leading.{LeadOn, LeadThrough, TellGone}
use Rattle.shot_changes.specs.NotedCells.{AreChanges, document_cells, has_cell, is_there, step_cells}
use Rattle.shot_changes.proofs.BundleCells.{columns_kept, gone_told, untold_kept}
use Rattle.shot_changes.proofs.FilledCells.{filled_same, formula_filled, same_filled}
use Rattle.shot_changes.proofs.SeenCells.{has-filter, seen_is}
use Rattle.shot_changes.proofs.ToldCells.{all_told}

-- ---- a bundle of records

module _ (law : TraceLaw) (ks : List Step) (d : Document) (c : CellChanges) (records : are_records ks ≡ true) (are : AreChanges false d (flat_map (step_cells d) ks) c) where
  module _ (s : Document) (actions : List DocAction) (bundle : IsBundle s actions ks d) (t k : List ℕ) (r : ℕ) where
    abbrev after : Document
    after = apply_all s actions

    kinds : are_records (steps_done s actions) ≡ true
    kinds = ap are_records (sym bundle.steps) ∙ records

    -- what has a formula before the bundle has one after it
    formula_after : is_formula_at s t k ≡ is_formula_at after t k
    formula_after =
        sym (formula_filled (value_of s) s t k)
        ∙ ap (λ ds. has_formula (find_id column_id k ds)) (columns_kept law s actions bundle.whole bundle.valid kinds t)
        ∙ formula_filled (value_of after) after t k

    formula_evaluated : is_formula_at d t k ≡ is_formula_at after t k
    formula_evaluated = ap (λ e. is_formula_at e t k) bundle.evaluated ∙ formula_filled (value_of after) after t k

    -- a value that no step tells of is seen as before
    seen_before : (seen : ByCell CellValue) → filled_by seen s ≡ filled s → (x : CellValue) → is_formula_at after t k ≡ true → cell_at (filled after) t k r ≡ Some x
        → has_cell (flat_map (step_cells d) ks) t k r ≡ false → seen_from c seen t k r ≡ x
    seen_before seen same x formula at untold =
        ap (λ b. cond b nothing_seen seen t k r) are.anew
        ∙ filled_same seen (value_of s) s same t k r x (formula_after ∙ formula)
        (untold_kept law d t k r (formula_evaluated ∙ formula) s actions bundle.whole bundle.valid kinds (ap (λ l. has_cell (flat_map (step_cells d) l) t k r) (sym bundle.steps) ∙ untold) x at)

    seen_now : (seen : ByCell CellValue) → filled_by seen s ≡ filled s → (x : CellValue) → is_formula_at after t k ≡ true → cell_at (filled after) t k r ≡ Some x → seen_after c seen t k r ≡ x
    seen_now seen same x formula at =
        seen_is t k r d false (flat_map (step_cells d) ks) c are seen x (ap (λ e. cell_at e t k r) bundle.evaluated ∙ at)
        ∙ by (has_cell (flat_map (step_cells d) ks) t k r) refl
      where
        by : (b : Bool) → has_cell (flat_map (step_cells d) ks) t k r ≡ b → cond b x (seen_from c seen t k r) ≡ x
        by true told = refl
        by false untold = seen_before seen same x formula at untold

    gone_noted : is_formula_at s t k ≡ true → IsSome (cell_at (filled s) t k r) → cell_at d t k r ≡ None → has_cell c.gone.items t k r ≡ true
    gone_noted formula some gone = by (cell_at (filled s) t k r) refl some
      where
        by : (o : Option CellValue) → cell_at (filled s) t k r ≡ o → IsSome o → has_cell c.gone.items t k r ≡ true
        by None e some = absurd (cc)
        by (Some x) e some =
            ap (λ cs. has_cell cs t k r) are.gone
            ∙ has-filter t k r (λ c. not (is_there d c)) (flat_map (step_cells d) ks)
            ∙ both_true (not (is_there d (cell_of t k r))) (has_cell (flat_map (step_cells d) ks) t k r)
            (ap (λ (o : Option CellValue). not (is_some o)) gone)
            (ap (λ l. has_cell (flat_map (step_cells d) l) t k r) bundle.steps
            ∙ gone_told law d t k r (formula_evaluated ∙ sym formula_after ∙ formula) s actions bundle.whole bundle.valid kinds x e (ap (λ e. cell_at e t k r) (sym bundle.evaluated) ∙ gone))

  pub lead_through : LeadThrough ks d c
  lead_through s actions bundle seen same =
      same_filled (seen_after c seen) (value_of (apply_all s actions)) (apply_all s actions)
      (laid_out (apply_all s actions) (IsWhole-apply_all s actions bundle.whole bundle.valid))
      (λ t k r x formula at. seen_now s actions bundle t k r seen same x formula at)

  pub tell_gone : TellGone ks d c
  tell_gone s actions bundle t k r formula some gone = gone_noted s actions bundle t k r formula some gone

-- ---- any bundle

pub lead_anew : (d : Document) (c : CellChanges) → AreChanges true d (document_cells d) c → (s t : Document) → IsWhole t → d ≡ filled t → LeadOn s t c
lead_anew d c are s t whole is seen same =
    same_filled (seen_after c seen) (value_of t) t (laid_out t whole) (λ a k r x formula at.
    let there : cell_at d a k r ≡ Some x = ap (λ e. cell_at e a k r) is ∙ at in
    let formula' : is_formula_at d a k ≡ true = ap (λ e. is_formula_at e a k) is ∙ formula_filled (value_of t) t a k ∙ formula in
    seen_is a k r d true (document_cells d) c are seen x there
    ∙ ap (λ b. cond b x (seen_from c seen a k r)) (all_told d a k r x formula' there))
