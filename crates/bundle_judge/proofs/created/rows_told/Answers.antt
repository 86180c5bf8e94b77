use Rattle.std.proofs.Common.{◌∷◌, [], ◌++◌, get_or, ap, ◌∙◌}
use Rattle.censored_view.specs.View.{view}
use Rattle.bundle_judge.specs.Created.{row_told}
use Rattle.bundle_judge.proofs.TakeLemmas.{map_take_read}
use Rattle.bundle_judge.proofs.created.rows_told.Goals as goal

pub loop-row-preserved : goal.loop-row-preserved
loop-row-preserved g c =
    let f = row_told (view (g.X.Lets.lets c.args.ctx.now) (g.D.DocReader.document c.args.tables.now)) c.args.table.now in
    c.in_ok-push.ensures.items
    ∙ ap (λ v. c.loop-row.told.items ++ v ∷ []) c.row_told.ensures
    ∙ ap (λ l. l ++ f (get_or c.args.rows.now c.loop-row.row-index 0) ∷ []) c.loop-row.invariant
    ∙ map_take_read f c.args.rows.now c.loop-row.row-index c.loop-row-test.true
