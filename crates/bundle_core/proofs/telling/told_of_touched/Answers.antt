use Rattle.std.proofs.Common.{◌≡◌, false, map, length, ap, subst, sym, ◌∙◌}
use Rattle.std.specs.List.{list_all}
use Rattle.doc_model.specs.Apply.{apply_all}
use Rattle.doc_model.specs.Document.{Document}
use Rattle.doc_model.specs.DocumentLaws.{IsWhole}
use Rattle.doc_model.proofs.InverseLaws.{IsWhole-apply_all}
use Rattle.user_actions.specs.StepLaws.{action_of}
use Rattle.user_attrs.specs.Attributes.{attributes_of}
use Rattle.action_censor.specs.Step.{are_records, is_of_records, step_of}
use Rattle.bundle_traces.specs.TraceLaws.{steps_done}
use Rattle.recalc.specs.Evaluated.{filled}
use Rattle.rule_contexts.specs.ChangedContexts.{may_change_contexts}
use Rattle.context_changes.specs.Bundle.{IsBundle}
use Rattle.context_changes.specs.Known.{AreKnown}
use Rattle.context_changes.specs.Told.{told_of}
use Rattle.context_changes.proofs.KnownLemmas.{known_still, told_narrowly}
use Rattle.bundle_judge.specs.Losses.{all_lost, cells_told}
use Rattle.bundle_judge.specs.Rollback.{gone_back}
use Rattle.bundle_core.specs.Followed.{with_cells}
use Rattle.bundle_core.proofs.FollowedLemmas.{lost_length, lost_steps, records_same, told_length}
use Rattle.bundle_core.proofs.telling.told_of_touched.Goals as goal

pub steps_told-requires : goal.steps_told-requires
steps_told-requires g c =
    let s = gone_back g.D.DocTables.fits g.D.DocTables.undone c.args.traces.now (g.D.DocReader.document c.args.doc.now) in
    let actions = map action_of c.args.steps.now in
    let traces = c.args.traces.now in
    let told : cells_told traces ≡ all_lost s actions = c.requires.cells in
    sym (told_length traces) ∙ ap length told ∙ lost_length s actions ∙ ap length (sym c.actions-2.ensures)

pub tell_touched-requires-clause-whole : goal.tell_touched-requires-clause-whole
tell_touched-requires-clause-whole g c =
    let P : Document → Type 0 = λ t. IsWhole t in
    subst P (sym c.requires.done) (IsWhole-apply_all (gone_back g.D.DocTables.fits g.D.DocTables.undone c.args.traces.now (g.D.DocReader.document c.args.doc.now)) (map action_of c.args.steps.now) c.requires.whole c.requires.valid)

pub tell_touched-requires-clause-records : goal.tell_touched-requires-clause-records
tell_touched-requires-clause-records g c =
    let s = gone_back g.D.DocTables.fits g.D.DocTables.undone c.args.traces.now (g.D.DocReader.document c.args.doc.now) in
    let actions = map action_of c.args.steps.now in
    let traces = c.args.traces.now in
    let told : cells_told traces ≡ all_lost s actions = c.requires.cells in
    let steps : map step_of c.in_ok-done.done.items ≡ steps_done s actions = c.in_ok-done.ensures ∙ ap (λ l. with_cells l (cells_told traces)) c.actions-2.ensures ∙ ap (with_cells actions) told ∙ lost_steps s actions in
    ap are_records (ap (map step_of) c.as_slice-3.ensures.value ∙ steps) ∙ records_same s actions
    ∙ ap (list_all is_of_records) (sym c.actions.ensures) ∙ sym c.are_of_records.ensures ∙ c.if-not-are_of_records.false

pub returns-clause-told : goal.returns-clause-told
returns-clause-told g c =
    let s = gone_back g.D.DocTables.fits g.D.DocTables.undone c.args.traces.now (g.D.DocReader.document c.args.doc.now) in
    let t = g.D.DocReader.document c.args.doc.now in
    let actions = map action_of c.args.steps.now in
    let traces = c.args.traces.now in
    let xs = c.args.known.now.contexts.items in
    let told : cells_told traces ≡ all_lost s actions = c.requires.cells in
    let steps : map step_of c.in_ok-done.done.items ≡ steps_done s actions = c.in_ok-done.ensures ∙ ap (λ l. with_cells l (cells_told traces)) c.actions-2.ensures ∙ ap (with_cells actions) told ∙ lost_steps s actions in
    let rules : c.as_slice.result.now ≡ attributes_of s = c.as_slice.ensures ∙ c.requires.known.attributes in
    let asked : map step_of c.as_slice-2.result.now ≡ steps_done s actions = ap (map step_of) c.as_slice-2.ensures.value ∙ steps in
    let quiet : may_change_contexts (attributes_of s) (steps_done s actions) ≡ false =
    sym (ap (λ r. may_change_contexts r (steps_done s actions)) rules) ∙ sym (ap (may_change_contexts c.as_slice.result.now) asked) ∙ sym c.may_change_contexts.ensures ∙ c.if-may_change_contexts.false in
    let bundle : IsBundle s actions (map step_of c.as_slice-3.result.now) (filled t) = record {
      whole = c.requires.whole;
      valid = c.requires.valid;
      steps = ap (map step_of) c.as_slice-3.ensures.value ∙ steps;
      evaluated = ap filled c.requires.done;
    } in
    let is : c.in_ok-told.told.items ≡ map (λ x. told_of (filled s) (filled (apply_all s actions)) x x) xs =
    c.in_ok-told.ensures s actions bundle
    ∙ ap (map (λ x. told_of (filled s) (filled t) x x)) c.as_slice-4.ensures.value
    ∙ ap (λ d. map (λ x. told_of (filled s) (filled d) x x) xs) c.requires.done in
    λ user among.
    told_narrowly c.same_context_law.ensures s actions c.requires.whole c.requires.valid quiet xs c.in_ok-told.told.items user c.requires.known.contexts among is

pub returns-clause-known : goal.returns-clause-known
returns-clause-known g c =
    let s = gone_back g.D.DocTables.fits g.D.DocTables.undone c.args.traces.now (g.D.DocReader.document c.args.doc.now) in
    let actions = map action_of c.args.steps.now in
    let traces = c.args.traces.now in
    let told : cells_told traces ≡ all_lost s actions = c.requires.cells in
    let steps : map step_of c.in_ok-done.done.items ≡ steps_done s actions = c.in_ok-done.ensures ∙ ap (λ l. with_cells l (cells_told traces)) c.actions-2.ensures ∙ ap (with_cells actions) told ∙ lost_steps s actions in
    let rules : c.as_slice.result.now ≡ attributes_of s = c.as_slice.ensures ∙ c.requires.known.attributes in
    let asked : map step_of c.as_slice-2.result.now ≡ steps_done s actions = ap (map step_of) c.as_slice-2.ensures.value ∙ steps in
    let quiet : may_change_contexts (attributes_of s) (steps_done s actions) ≡ false =
    sym (ap (λ r. may_change_contexts r (steps_done s actions)) rules) ∙ sym (ap (may_change_contexts c.as_slice.result.now) asked) ∙ sym c.may_change_contexts.ensures ∙ c.if-may_change_contexts.false in
    let P : Document → Type 0 = λ d. AreKnown d c.args.known.now in
    subst P (sym c.requires.done)
    (known_still c.same_context_law.ensures s actions c.requires.whole c.requires.valid quiet c.same_rules_law.ensures c.args.known.now c.requires.known)
