use Rattle.std.proofs.Common.{◌≡◌, ◌∙◌, length, rules}
use Rattle.doc_model.specs.Column.{column_row}
use Rattle.doc_readers.specs.Parts.{grid_at}
use Rattle.doc_readers.proofs.ColumnLemmas.{column_read, column_past}
use Rattle.recalc.proofs.LosingCells.{described_by}
use Rattle.recalc.proofs.WalkLemmas.{walk_step, walk_fewer, walk_end}
use Rattle.affected_search.proofs.described.columns_described.Goals as goal

pub loop-column-smaller : goal.loop-column-smaller
loop-column-smaller g c =
    let s = g.R.DocReader.document c.args.tables.now in
    let id = c.args.table.now in
    let counts : c.len.result ≡ length c.loop-column.rows.items = search rules in
    walk_fewer column_row (grid_at s id).columns c.loop-column.rows.items c.push.new.self.items c.len.result c.in-Some.column.now c.in-Some.column.now.row counts
    (column_read s id c.len.result c.in-Some.column.now c.in-Some.ensures.told) (search rules) c.in_ok-push.ensures.items

pub loop-column-preserved : goal.loop-column-preserved
loop-column-preserved g c =
    let s = g.R.DocReader.document c.args.tables.now in
    let id = c.args.table.now in
    let counts : c.len.result ≡ length c.loop-column.rows.items = search rules in
    walk_step column_row (grid_at s id).columns c.loop-column.rows.items c.push.new.self.items c.len.result c.in-Some.column.now c.in-Some.column.now.row counts
    (column_read s id c.len.result c.in-Some.column.now c.in-Some.ensures.told) (search rules) c.in_ok-push.ensures.items c.loop-column.invariant

pub returns : goal.returns
returns g c =
    let s = g.R.DocReader.document c.args.tables.now in
    let id = c.args.table.now in
    let counts : c.len.result ≡ length c.loop-column.rows.items = search rules in
    walk_end column_row (grid_at s id).columns c.loop-column.rows.items c.len.result counts c.loop-column.invariant
    (column_past s id c.len.result c.in_default.ensures.told)
    ∙ described_by s id
