use Rattle.std.proofs.Common.{◌+◌, ◌-◌, ◌^◌, ◌∙◌, min, sym, ap}
use Rattle.doc_model.specs.Counts.{formula_bytes}
use Rattle.doc_model.specs.CountLaws.{rows_weight}
use Rattle.doc_model.proofs.TotalsLaws.{sum_of}
use Rattle.doc_readers.specs.Parts.{grid_at}
use Rattle.action_limits.specs.Capped.{capped}
use Rattle.action_limits.proofs.CountedLemmas.{grid_weight-parts}
use Rattle.action_limits.proofs.SumLemmas.{capped-plus}
use Rattle.action_limits.proofs.weighing.table_weight.Goals as goal

pub returns : goal.returns
returns g c =
    let s = g.D.DocReader.document c.args.tables.now in
    let t = grid_at s c.args.table.now in
    c.saturating_add.ensures
    ∙ ap (λ n. min (n + c.formulas_weight.result) (2 ^ 64 - 1)) (c.rows_weight-cells.ensures ∙ ap (λ rows. capped (rows_weight t rows)) c.rows_in.ensures.value)
    ∙ ap (λ n. min (capped (rows_weight t t.rows) + n) (2 ^ 64 - 1)) c.formulas_weight.ensures
    ∙ capped-plus (rows_weight t t.rows) (sum_of formula_bytes t.columns)
    ∙ ap capped (sym (grid_weight-parts s c.requires c.args.table.now))
