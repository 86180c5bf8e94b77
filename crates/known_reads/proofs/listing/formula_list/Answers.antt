use Rattle.std.proofs.Common.{◌<◌, length, arith}
use Rattle.std.proofs.lemmas.Option.{slice_get_within}
use Rattle.recalc.proofs.WalkLemmas.{table_read}
use Rattle.known_reads.proofs.ListedLemmas.{distinct_columns}
use Rattle.known_reads.proofs.listing.formula_list.Goals as goal

pub push_columns-requires-clause-distinct : goal.push_columns-requires-clause-distinct
push_columns-requires-clause-distinct g c =
    let s = g.D.DocReader.document c.args.tables.now in
    let t = table_read s c.loop-table.index c.in-Some.table.now c.in-Some.ensures.told in
    distinct_columns s c.requires c.loop-table.index t.0 t.1 c.in-Some.table.now t.2

pub loop-table-smaller : goal.loop-table-smaller
loop-table-smaller g c =
    let s = g.D.DocReader.document c.args.tables.now in
    let t = table_read s c.loop-table.index c.in-Some.table.now c.in-Some.ensures.told in
    let within : c.loop-table.index < length s = slice_get_within s c.loop-table.index t.0 t.1 in
    omega (arith, within)
