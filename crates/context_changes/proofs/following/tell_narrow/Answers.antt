use Rattle.std.proofs.Common.{map, sym, ap, subst, ◌∙◌}
use Rattle.std.proofs.lemmas.List.{take_all}
use Rattle.action_censor.specs.Back.{back}
use Rattle.action_censor.specs.Step.{step_of}
use Rattle.action_censor.specs.TouchedTables.{AreTouchedTables}
use Rattle.acl_rules.specs.declared.decision.Ctx.{Ctx}
use Rattle.context_changes.specs.Told.{told_of}
use Rattle.context_changes.proofs.BundleLemmas.{back_to_bundle}
use Rattle.context_changes.proofs.ToldLemmas.{one_more}
use Rattle.context_changes.proofs.following.tell_narrow.Goals as goal

pub loop-ctx-preserved : goal.loop-ctx-preserved
loop-ctx-preserved g c =
    let now = g.D.DocReader.document c.args.tables.now in
    let ks = map step_of c.args.steps.now in
    let are : AreTouchedTables ks now c.as_slice.result.now = subst (AreTouchedTables ks now) (sym c.as_slice.ensures.value) c.in_ok-touched.ensures in
    one_more (λ x. told_of (back ks now) now x x) c.args.contexts.now c.loop-ctx.ctx-index c.ctx-item.result c.loop-ctx.told.items c.push.new.self.items c.in_ok-tell_by_rows.field-0
    c.loop-ctx-test.true c.ctx-item.is c.loop-ctx.invariant (c.in_ok-tell_by_rows.ensures ks are) c.in_ok-push.ensures.items

pub returns : goal.returns
returns g c = λ s actions is.
    let now = g.D.DocReader.document c.args.tables.now in
    let ks = map step_of c.args.steps.now in
    c.loop-ctx.invariant
    ∙ ap (map (λ (x : Ctx). told_of (back ks now) now x x)) (take_all c.loop-ctx.ctx-index c.args.contexts.now c.loop-ctx-test.false)
    ∙ back_to_bundle c.bundle_law.ensures s actions ks now is c.requires.records c.args.contexts.now
