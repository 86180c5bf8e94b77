use Rattle.std.proofs.Common.{◌≡◌, ◌∙◌, ap, sym, subst}
use Rattle.std.specs.List.{list_all}
use Rattle.action_limits.specs.Capped.{settled}
use Rattle.action_limits.specs.Updated.{all_updated_at, is_known}
use Rattle.user_actions.specs.Steps.{steps_of}
use Rattle.action_limits.specs.Tallies.{IsExpansion}
use Rattle.action_limits.proofs.ExpansionLemmas.{exact_from, settled_is}
use Rattle.action_limits.proofs.RenameMoves.{TellsRenaming, renaming_told}
use Rattle.action_limits.proofs.expansion.renaming_expansion.Goals as goal

pub after_updates-sums-requires : goal.after_updates-sums-requires
after_updates-sums-requires g c =
    let s = g.D.DocReader.document c.args.tables.now in
    let a = c.args.action.now in
    let made : c.as_slice.result.now ≡ steps_of s a = c.as_slice.ensures ∙ rw c.in-Some.is at c.in_ok-steps.ensures.made in
    let told : TellsRenaming s c.sums_of.result c.maxima_before-most.result (steps_of s a) = renaming_told s c.requires.whole a c.requires.renames c.in_ok-steps.ensures.valid c.sums_of.result c.maxima_before-most.result
    (exact_from s c.args.tally c.sums_of.result c.requires.tally c.sums_of.ensures) c.maxima_before-most.ensures in
    record { whole = c.requires.whole; known = ap (list_all (is_known s)) made ∙ told.known }

pub returns : goal.returns
returns g c =
    let s = g.D.DocReader.document c.args.tables.now in
    let a = c.args.action.now in
    let made : c.in-Some.steps ≡ steps_of s a = rw c.in-Some.is at c.in_ok-steps.ensures.made in
    let told : TellsRenaming s c.sums_of.result c.maxima_before-most.result (steps_of s a) = renaming_told s c.requires.whole a c.requires.renames c.in_ok-steps.ensures.valid c.sums_of.result c.maxima_before-most.result
    (exact_from s c.args.tally c.sums_of.result c.requires.tally c.sums_of.ensures) c.maxima_before-most.ensures in
    subst (IsExpansion s a)
    (sym (c.settled.ensures
    ∙ ap (λ l. settled l c.after_updates-sums.result c.maxima_before-most.result) made
    ∙ ap (λ m. settled (steps_of s a) m c.maxima_before-most.result) (c.after_updates-sums.ensures ∙ ap (all_updated_at s c.sums_of.result) (c.as_slice.ensures ∙ made))))
    (settled_is s a (all_updated_at s c.sums_of.result (steps_of s a)) c.maxima_before-most.result c.in_ok-steps.ensures.valid told.sums told.most)
