use Rattle.std.proofs.Common.{◌<◌, ◌≤◌, length, arith}
use Rattle.std.proofs.lemmas.Option.{slice_get_within}
use Rattle.doc_readers.specs.Parts.{grid_at}
use Rattle.doc_readers.proofs.ColumnLemmas.{column_read, column_past}
use Rattle.action_limits.proofs.CountedLemmas.{nothing_there}
use Rattle.action_limits.proofs.weighing.column_count.Goals as goal

pub loop-column-preserved : goal.loop-column-preserved
loop-column-preserved g c =
    let s = g.D.DocReader.document c.args.tables.now in
    let id = c.args.table.now in
    let here : c.loop-column.index < length (grid_at s id).columns = slice_get_within (grid_at s id).columns c.loop-column.index c.in-Some._column.now (column_read s id c.loop-column.index c.in-Some._column.now c.in-Some.ensures.told) in
    omega (arith, here)

pub returns : goal.returns
returns g c =
    let s = g.D.DocReader.document c.args.tables.now in
    let id = c.args.table.now in
    let past : length (grid_at s id).columns ≤ c.loop-column.index = nothing_there (grid_at s id).columns c.loop-column.index (column_past s id c.loop-column.index c.in_default.ensures.told) in
    omega (arith, past, c.loop-column.invariant)
