use Rattle.std.proofs.Common.{◌≡◌, ◌∙◌, ap, length, rules}
use Rattle.doc_readers.specs.Parts.{grid_at}
use Rattle.doc_readers.proofs.ColumnLemmas.{column_read, column_past}
use Rattle.recalc.specs.Kept.{blank_column, column_part}
use Rattle.recalc.proofs.WalkLemmas.{mapped_step, mapped_fewer, mapped_end}
use Rattle.recalc.proofs.blank.blank_columns.Goals as goal

pub loop-column-smaller : goal.loop-column-smaller
loop-column-smaller g c =
    let s = g.D.DocReader.document c.args.tables.now in
    let id = c.args.table.now in
    let counts : c.len.result ≡ length c.loop-column.columns.items = search rules in
    mapped_fewer column_part (blank_column (grid_at s id).rows) (grid_at s id).columns c.loop-column.columns.items c.push.new.self.items c.len.result c.in-Some.column.now c.in_ok-blank_column.field-0 counts
    (column_read s id c.len.result c.in-Some.column.now c.in-Some.ensures.told) (c.in_ok-blank_column.ensures ∙ ap (λ rows. blank_column rows c.in-Some.column.now) c.rows_in-rows.ensures.value) c.in_ok-push.ensures.items

pub loop-column-preserved : goal.loop-column-preserved
loop-column-preserved g c =
    let s = g.D.DocReader.document c.args.tables.now in
    let id = c.args.table.now in
    let counts : c.len.result ≡ length c.loop-column.columns.items = search rules in
    mapped_step column_part (blank_column (grid_at s id).rows) (grid_at s id).columns c.loop-column.columns.items c.push.new.self.items c.len.result c.in-Some.column.now c.in_ok-blank_column.field-0 counts
    (column_read s id c.len.result c.in-Some.column.now c.in-Some.ensures.told) (c.in_ok-blank_column.ensures ∙ ap (λ rows. blank_column rows c.in-Some.column.now) c.rows_in-rows.ensures.value) c.in_ok-push.ensures.items c.loop-column.invariant

pub returns : goal.returns
returns g c =
    let s = g.D.DocReader.document c.args.tables.now in
    let id = c.args.table.now in
    let counts : c.len.result ≡ length c.loop-column.columns.items = search rules in
    mapped_end column_part (blank_column (grid_at s id).rows) (grid_at s id).columns c.loop-column.columns.items c.len.result counts c.loop-column.invariant (column_past s id c.len.result c.in_default.ensures.told)
