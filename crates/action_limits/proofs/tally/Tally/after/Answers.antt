use Rattle.std.proofs.Common.{◌∙◌, ap, subst, sym}
use Rattle.doc_model.specs.Apply.{apply}
use Rattle.action_limits.specs.Capped.{moved_by, tally_or_limit}
use Rattle.action_limits.specs.Tallies.{IsTallyOrLimit}
use Rattle.action_limits.proofs.ExpansionLemmas.{exact_from, has_named-valid, one_told, tally_is}
use Rattle.action_limits.proofs.tally.Tally.after.Goals as goal

pub after_action-sums-requires-clause-there : goal.after_action-sums-requires-clause-there
after_action-sums-requires-clause-there g c = has_named-valid (g.D.DocReader.document c.args.tables.now) c.args.action.now c.requires.valid

pub returns : goal.returns
returns g c =
    let s = g.D.DocReader.document c.args.tables.now in
    let a = c.args.action.now in
    let sums = one_told s a c.sums_of.result c.requires.whole c.requires.valid (exact_from s c.args.self c.sums_of.result c.requires.tally c.sums_of.ensures) in
    subst (IsTallyOrLimit (apply s a))
    (sym (c.tally_or_limit.ensures ∙ ap (λ m. tally_or_limit m c.maxima_after.result) c.after_action-sums.ensures))
    (tally_is (apply s a) (moved_by s c.sums_of.result a) c.maxima_after.result sums c.maxima_after.ensures)
