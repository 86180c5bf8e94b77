use Rattle.std.proofs.Common.{◌∷◌, [], ◌++◌, ap, ◌∙◌}
use Rattle.censored_view.specs.View.{view}
use Rattle.bundle_judge.specs.Created.{told_of}
use Rattle.bundle_judge.proofs.TakeLemmas.{map_take_next}
use Rattle.bundle_judge.proofs.created.all_told.Goals as goal

pub loop-one-preserved : goal.loop-one-preserved
loop-one-preserved g c =
    let f = told_of (view (g.X.Lets.lets c.args.ctx.now) (g.D.DocReader.document c.args.tables.now)) in
    c.in_ok-push.ensures.items
    ∙ ap (λ v. c.loop-one.told.items ++ v ∷ []) c.in_ok-told_of.ensures
    ∙ ap (λ l. l ++ f c.one-item.result ∷ []) c.loop-one.invariant
    ∙ map_take_next f c.args.created.now c.loop-one.one-index c.one-item.result c.loop-one-test.true c.one-item.is
