use Rattle.std.proofs.Common.{◌≡◌, List, map, sym, ap, subst, ◌∙◌}
use Rattle.std.proofs.lemmas.Result.{IfOk-weaker}
use Rattle.doc_model.specs.Document.{Document}
use Rattle.action_censor.specs.Step.{step_of}
use Rattle.action_censor.specs.declared.steps.StepTrace.{StepTrace}
use Rattle.bundle_traces.specs.TraceLaws.{steps_done}
use Rattle.recalc.specs.Evaluated.{filled}
use Rattle.shot_cells.specs.declared.changes.CellChanges.{CellChanges}
use Rattle.shot_changes.specs.Leading.{LeadOn, LeadThrough}
use Rattle.user_actions.specs.StepLaws.{action_of}
use Rattle.bundle_core.specs.LastChange.{IsChange}
use Rattle.document_shot.proofs.making.values_after.Goals as goal

pub returns-in-Some-clause-leads : goal.returns-in-Some-clause-leads
returns-in-Some-clause-leads c =
    let t : Document = c.args.doc.now in
    let steps = c.as_slice.result.now in
    let told : (s u : Document) → IsChange s u c.args.change.now → map step_of c.in-Some.steps.items ≡ steps_done s (map action_of c.args.change.now.steps) = rw c.in-Some.is at c.in_ok-steps.ensures.steps in
    IfOk-weaker c.changes_of_rows.result (λ (k : CellChanges). LeadThrough (map step_of steps) (filled t) k) (λ (k : CellChanges). (s : Document) → IsChange s t c.args.change.now → LeadOn s t k)
    (λ k lead s h. let P : Document → Type 0 = λ d. LeadOn s d k in
    subst P (sym h.after) (lead s (map action_of c.args.change.now.steps) (record {
      whole = h.whole;
      valid = h.valid;
      steps = ap (map step_of) c.as_slice.ensures.value ∙ told s t h;
      evaluated = ap filled h.after;
    }))) c.changes_of_rows.ensures.lead
