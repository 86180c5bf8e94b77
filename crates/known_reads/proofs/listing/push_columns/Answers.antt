use Rattle.std.proofs.Common.{◌<◌, length, arith}
use Rattle.std.proofs.lemmas.Option.{slice_get_within}
use Rattle.doc_model.specs.Column.{column_id}
use Rattle.doc_readers.specs.Parts.{grid_at}
use Rattle.doc_readers.proofs.ColumnLemmas.{column_read}
use Rattle.recalc.proofs.WholeLemmas.{found_at}
use Rattle.known_reads.proofs.listing.push_columns.Goals as goal

pub push_column-requires-clause-there : goal.push_column-requires-clause-there
push_column-requires-clause-there g c =
    let s = g.D.DocReader.document c.args.tables.now in
    let columns = (grid_at s c.args.table.now).columns in
    found_at column_id columns c.loop-column.index c.in-Some.column.now c.requires.distinct (column_read s c.args.table.now c.loop-column.index c.in-Some.column.now c.in-Some.ensures.told)

pub loop-column-smaller : goal.loop-column-smaller
loop-column-smaller g c =
    let s = g.D.DocReader.document c.args.tables.now in
    let columns = (grid_at s c.args.table.now).columns in
    let within : c.loop-column.index < length columns = slice_get_within columns c.loop-column.index c.in-Some.column.now (column_read s c.args.table.now c.loop-column.index c.in-Some.column.now c.in-Some.ensures.told) in
    omega (arith, within)
