use Rattle.std.proofs.Common.{◌≡◌, length, rules}
use Rattle.doc_readers.specs.Parts.{grid_at}
use Rattle.action_inverse.proofs.TableLemmas.{columns_step, columns_fewer, columns_end}
use Rattle.doc_readers.proofs.ColumnLemmas.{column_read, column_past}
use Rattle.action_inverse.proofs.columns.columns_of.Goals as goal

pub loop-column-smaller : goal.loop-column-smaller
loop-column-smaller g c =
    let s = g.D.DocReader.document c.args.tables.now in
    let id = c.args.table.now in
    let counts : c.len.result ≡ length c.loop-column.columns.items = search rules in
    columns_fewer (grid_at s id).columns c.loop-column.columns.items c.push.new.self.items c.in-Some.column.now c.len.result counts
    (column_read s id c.len.result c.in-Some.column.now c.in-Some.ensures.told) (search rules)

pub loop-column-preserved : goal.loop-column-preserved
loop-column-preserved g c =
    let s = g.D.DocReader.document c.args.tables.now in
    let id = c.args.table.now in
    let counts : c.len.result ≡ length c.loop-column.columns.items = search rules in
    columns_step (grid_at s id).columns c.loop-column.columns.items c.push.new.self.items c.in-Some.column.now c.len.result counts
    (column_read s id c.len.result c.in-Some.column.now c.in-Some.ensures.told) (search rules) c.loop-column.invariant

pub returns : goal.returns
returns g c =
    let s = g.D.DocReader.document c.args.tables.now in
    let id = c.args.table.now in
    let counts : c.len.result ≡ length c.loop-column.columns.items = search rules in
    columns_end (grid_at s id).columns c.loop-column.columns.items c.len.result counts c.loop-column.invariant
    (column_past s id c.len.result c.in_default.ensures.told)
