use Rattle.std.proofs.Common.{◌∙◌, ap, arith, ltb}
use Rattle.doc_model.specs.Counts.{counts}
use Rattle.action_limits.specs.Capped.{noted}
use Rattle.action_limits.proofs.CountedLemmas.{capped_above}
use Rattle.action_limits.proofs.ExpansionLemmas.{first_passed-same}
use Rattle.action_limits.proofs.limits.over.Goals as goal

pub returns : goal.returns
returns g c =
    let s = g.D.DocReader.document c.args.tables.now in
    let told = c.counts_of.ensures in
    c.first_passed.ensures ∙ first_passed-same (noted c.counts_of.result) (counts s) (record {
      tables = ap (ltb 2048) told.tables;
      columns = ap (ltb 1024) told.columns;
      rows = ap (ltb 1000000) told.rows;
      row_id = ap (ltb 4294967295) told.row_id;
      cells = ap (ltb 4000000) told.cells ∙ capped_above 4000000 (counts s).cells (omega arith);
      weight = ap (ltb 268435456) told.weight ∙ capped_above 268435456 (counts s).weight (omega arith);
    })
