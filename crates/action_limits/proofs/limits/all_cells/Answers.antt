use Rattle.std.proofs.Common.{◌≡◌, ◌<◌, ◌∙◌, ap, refl, length, take, arith}
use Rattle.doc_model.specs.Counts.{grid_cells}
use Rattle.doc_model.specs.Document.{Table}
use Rattle.doc_model.specs.MetadataIds.{is_schema_id}
use Rattle.doc_model.proofs.TotalsLaws.{sum_of}
use Rattle.action_limits.specs.Capped.{capped, counted_cells, no_table, table_in}
use Rattle.action_limits.proofs.CountedLemmas.{taken_all}
use Rattle.action_limits.proofs.SumLemmas.{capped_step, sum_passing}
use Rattle.action_limits.proofs.limits.all_cells.Goals as goal

pub loop-index-preserved : goal.loop-index-preserved
loop-index-preserved g c =
    let s = g.D.DocReader.document c.args.tables.now in
    let within : c.loop-index.index < length s = omega (arith, c.table_count-index-end.ensures.all, c.loop-index-test.true) in
    capped_step counted_cells s c.loop-index.index no_table (table_in s c.loop-index.index) c.loop-index.cells c.saturating_add-cells.result c.counted_cells.result
    within refl c.loop-index.invariant c.counted_cells.ensures c.saturating_add-cells.ensures

pub returns : goal.returns
returns g c =
    let s = g.D.DocReader.document c.args.tables.now in
    let all : take c.loop-index.index s ≡ s = taken_all s c.loop-index.index (omega (arith, c.table_count-index-end.ensures.all, c.loop-index-test.false)) in
    c.loop-index.invariant
    ∙ ap (λ ts. capped (sum_of counted_cells ts)) all
    ∙ ap capped (sum_passing (λ (t : Table). is_schema_id t.id) (λ (t : Table). grid_cells t.grid) s)
