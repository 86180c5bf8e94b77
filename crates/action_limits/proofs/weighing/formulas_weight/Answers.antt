use Rattle.std.proofs.Common.{◌≡◌, ◌∙◌, ap, take, arith}
use Rattle.std.proofs.lemmas.Option.{slice_get_within, get_or_from_slice_get}
use Rattle.doc_model.specs.Counts.{formula_bytes}
use Rattle.doc_model.proofs.TotalsLaws.{sum_of}
use Rattle.doc_readers.specs.Parts.{grid_at}
use Rattle.action_limits.specs.Capped.{capped}
use Rattle.action_limits.proofs.CountedLemmas.{taken_all}
use Rattle.action_limits.proofs.SumLemmas.{capped_step}
use Rattle.action_limits.proofs.weighing.formulas_weight.Goals as goal

pub loop-index-preserved : goal.loop-index-preserved
loop-index-preserved g c =
    let t = grid_at (g.D.DocReader.document c.args.tables.now) c.args.table.now in
    let d = c.column_at-column.result.now in
    capped_step formula_bytes t.columns c.loop-index.index d d c.loop-index.weight c.saturating_add-weight.result c.len.result
    (slice_get_within t.columns c.loop-index.index d c.column_at-column.ensures) (get_or_from_slice_get t.columns c.loop-index.index d d c.column_at-column.ensures) c.loop-index.invariant (grind arith) c.saturating_add-weight.ensures

pub returns : goal.returns
returns g c =
    let t = grid_at (g.D.DocReader.document c.args.tables.now) c.args.table.now in
    let all : take c.loop-index.index t.columns ≡ t.columns = taken_all t.columns c.loop-index.index (omega (arith, c.column_count-index-end.ensures, c.loop-index-test.false)) in
    c.loop-index.invariant ∙ ap (λ ds. capped (sum_of formula_bytes ds)) all
