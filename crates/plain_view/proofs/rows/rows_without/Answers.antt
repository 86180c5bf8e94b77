use Rattle.std.proofs.Common.{not, refl, ap}
use Rattle.doc_model.specs.Rows.{has}
use Rattle.plain_view.proofs.Steps.{filter_next}
use Rattle.plain_view.proofs.rows.rows_without.Goals as goal

pub loop-row-preserved : goal.loop-row-preserved
loop-row-preserved c =
    filter_next (λ r. not (has c.args.gone.now r)) c.args.rows.now c.args.rows.now c.loop-row.row-index
    (not c.is_among.result) c.loop-row.kept.items c.push_if.new.rows.items
    refl c.loop-row-test.true c.loop-row.invariant (ap not c.is_among.ensures) c.in_ok-push_if.ensures
