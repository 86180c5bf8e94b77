use Rattle.std.proofs.Common.{◌≡◌, ◌∙◌, ap, map, sym, subst, true}
use Rattle.std.specs.List.{list_all}
use Rattle.doc_model.specs.Apply.{all_valid, apply_all}
use Rattle.action_limits.specs.Capped.{all_moved, all_moved_at, is_there, settled}
use Rattle.action_limits.specs.Left.{AreQuietLater, TellsMaxima}
use Rattle.user_actions.specs.StepLaws.{action_of}
use Rattle.user_actions.specs.Steps.{steps_of}
use Rattle.action_limits.specs.Tallies.{IsExpansion}
use Rattle.action_limits.proofs.ExpansionLemmas.{exact_from, settled_is}
use Rattle.action_limits.proofs.ModifyMoves.{TellsSteps}
use Rattle.action_limits.proofs.StepMoves.{other_quiet, other_told}
use Rattle.action_limits.proofs.expansion.other_expansion.Goals as goal

pub after_steps-sums-requires : goal.after_steps-sums-requires
after_steps-sums-requires g c =
    let s = g.D.DocReader.document c.args.tables.now in
    let a = c.args.action.now in
    let made : c.as_slice.result.now ≡ steps_of s a = c.as_slice.ensures ∙ rw c.in-Some.is at c.in_ok-steps.ensures.made in
    let told : TellsSteps s c.sums_of.result (steps_of s a) = other_told s a c.sums_of.result c.requires.whole c.requires.other c.requires.stays (exact_from s c.args.tally c.sums_of.result c.requires.tally c.sums_of.ensures) c.in_ok-steps.ensures.valid in
    record {
      whole = c.requires.whole;
      there = ap (list_all (is_there s)) made ∙ told.there;
      alike = subst (λ l. all_moved_at s c.sums_of.result l ≡ all_moved s c.sums_of.result l) (sym made) told.alike;
    }

pub maxima_after_steps-most-requires : goal.maxima_after_steps-most-requires
maxima_after_steps-most-requires g c =
    let s = g.D.DocReader.document c.args.tables.now in
    let a = c.args.action.now in
    let made : c.as_slice-2.result.now ≡ steps_of s a = c.as_slice-2.ensures ∙ rw c.in-Some.is at c.in_ok-steps.ensures.made in
    record {
      whole = c.requires.whole;
      within = c.requires.tally.within;
      valid = subst (λ l. all_valid s (map action_of l) ≡ true) (sym made) c.in_ok-steps.ensures.valid;
      quiet = subst AreQuietLater (sym made) (other_quiet s a c.requires.other c.requires.stays);
    }

pub returns : goal.returns
returns g c =
    let s = g.D.DocReader.document c.args.tables.now in
    let a = c.args.action.now in
    let made : c.in-Some.steps ≡ steps_of s a = rw c.in-Some.is at c.in_ok-steps.ensures.made in
    let told : TellsSteps s c.sums_of.result (steps_of s a) = other_told s a c.sums_of.result c.requires.whole c.requires.other c.requires.stays (exact_from s c.args.tally c.sums_of.result c.requires.tally c.sums_of.ensures) c.in_ok-steps.ensures.valid in
    let most : TellsMaxima c.maxima_after_steps-most.result (apply_all s (map action_of (steps_of s a))) = subst (λ l. TellsMaxima c.maxima_after_steps-most.result (apply_all s (map action_of l))) (c.as_slice-2.ensures ∙ made) c.maxima_after_steps-most.ensures in
    subst (IsExpansion s a)
    (sym (c.settled.ensures
    ∙ ap (λ l. settled l c.after_steps-sums.result c.maxima_after_steps-most.result) made
    ∙ ap (λ m. settled (steps_of s a) m c.maxima_after_steps-most.result) (c.after_steps-sums.ensures ∙ ap (all_moved s c.sums_of.result) (c.as_slice.ensures ∙ made))))
    (settled_is s a (all_moved s c.sums_of.result (steps_of s a)) c.maxima_after_steps-most.result c.in_ok-steps.ensures.valid told.sums most)
