use Rattle.std.proofs.Common.{◌<◌, length, ◌∙◌, arith}
use Rattle.meta_schema.specs.Decoding.{table_in}
use Rattle.meta_schema.proofs.LookupLemmas.{one_found, none_found}
use Rattle.meta_schema.proofs.reading.schema_by.Goals as goal
use Rattle.meta_schema.proofs.reading.schema_by.Goals.{in-Some+in_ok-push, in_default}

pub loop-row-preserved : goal.loop-row-preserved
loop-row-preserved g c =
    let find = table_in (g.D.DocReader.document c.args.tables.now) in
    let rows = c.rows_in-row-items.result.now in
    let i = c.loop-row.row-index in
    let here : i < length rows = omega arith in
    elim c.match-branch-2.branch [
      | in-Some+in_ok-push w ↦ one_found find rows i c.loop-row.schema c.match-branch-2.schema c.in_ok-table.field-0 w.in-Some.table here c.loop-row.invariant c.in_ok-table.ensures w.in-Some.is (w.schema-is ∙ w.in_ok-push.ensures.ok)
      | in_default w ↦ none_found find rows i c.loop-row.schema c.match-branch-2.schema c.in_ok-table.field-0 here c.loop-row.invariant c.in_ok-table.ensures w.in_default.is w.schema-is
    ]
