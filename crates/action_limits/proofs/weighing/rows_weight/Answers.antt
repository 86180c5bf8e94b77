use Rattle.std.proofs.Common.{◌≡◌, ◌∙◌, ap, take, arith}
use Rattle.std.proofs.lemmas.Option.{slice_get_within, get_or_from_slice_get}
use Rattle.doc_model.specs.CountLaws.{column_weight}
use Rattle.doc_model.specs.declared.column.ColDef.{ColDef}
use Rattle.doc_model.proofs.TotalsLaws.{sum_of}
use Rattle.doc_readers.specs.Parts.{grid_at}
use Rattle.action_limits.specs.Capped.{capped}
use Rattle.action_limits.proofs.CountedLemmas.{rows_weight-columns, taken_all}
use Rattle.action_limits.proofs.SumLemmas.{capped_step}
use Rattle.action_limits.proofs.weighing.rows_weight.Goals as goal

pub loop-index-preserved : goal.loop-index-preserved
loop-index-preserved g c =
    let t = grid_at (g.D.DocReader.document c.args.tables.now) c.args.table.now in
    let d = c.column_at-column.result.now in
    capped_step (λ (d : ColDef). column_weight t c.args.rows.now d.id) t.columns c.loop-index.index d d c.loop-index.weight c.saturating_add-weight.result c.column_weight.result
    (slice_get_within t.columns c.loop-index.index d c.column_at-column.ensures) (get_or_from_slice_get t.columns c.loop-index.index d d c.column_at-column.ensures) c.loop-index.invariant c.column_weight.ensures c.saturating_add-weight.ensures

pub returns : goal.returns
returns g c =
    let t = grid_at (g.D.DocReader.document c.args.tables.now) c.args.table.now in
    let all : take c.loop-index.index t.columns ≡ t.columns = taken_all t.columns c.loop-index.index (omega (arith, c.column_count-index-end.ensures, c.loop-index-test.false)) in
    c.loop-index.invariant
    ∙ ap (λ ds. capped (sum_of (λ (d : ColDef). column_weight t c.args.rows.now d.id) ds)) all
    ∙ ap capped (rows_weight-columns t c.args.rows.now)
