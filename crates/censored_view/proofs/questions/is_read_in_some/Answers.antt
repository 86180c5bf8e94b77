use Rattle.std.proofs.Common.{◌+◌, ◌&&◌, Some, sym, refl, ◌∙◌}
use Rattle.doc_model.specs.declared.column.ColDef.{ColDef}
use Rattle.doc_readers.specs.Parts.{grid_at}
use Rattle.doc_readers.proofs.ColumnLemmas.{column_past, column_read}
use Rattle.censored_view.proofs.ColumnWalk.{any_end, any_here, any_next, columns_fewer}
use Rattle.censored_view.proofs.questions.is_read_in_some.Goals as goal

pub returns-then-is_cell_read : goal.returns-then-is_cell_read
returns-then-is_cell_read g c =
    let s = g.D.DocReader.document c.args.tables.now in
    let id = c.args.table.now in
    let x = g.X.Lets.lets c.args.ctx.now id in
    any_here (λ (d : ColDef). x.column d.id && x.cell (Some d.id) (g.W.RowReader.told c.args.row.now)) (grid_at s id).columns c.loop-column.index c.loop-column.invariant c.in-Some.column.now
    (column_read s id c.loop-column.index c.in-Some.column.now c.in-Some.ensures.told) (sym c.is_cell_read.ensures ∙ c.if-is_cell_read.true)

pub loop-column-smaller : goal.loop-column-smaller
loop-column-smaller g c =
    let s = g.D.DocReader.document c.args.tables.now in
    let id = c.args.table.now in
    columns_fewer (grid_at s id).columns c.loop-column.index (c.loop-column.index + 1) c.in-Some.column.now
    (column_read s id c.loop-column.index c.in-Some.column.now c.in-Some.ensures.told) refl

pub loop-column-preserved : goal.loop-column-preserved
loop-column-preserved g c =
    let s = g.D.DocReader.document c.args.tables.now in
    let id = c.args.table.now in
    let x = g.X.Lets.lets c.args.ctx.now id in
    any_next (λ (d : ColDef). x.column d.id && x.cell (Some d.id) (g.W.RowReader.told c.args.row.now)) (grid_at s id).columns c.loop-column.index c.loop-column.invariant c.in-Some.column.now
    (column_read s id c.loop-column.index c.in-Some.column.now c.in-Some.ensures.told) (sym c.is_cell_read.ensures ∙ c.if-is_cell_read.false) (c.loop-column.index + 1) refl

pub returns : goal.returns
returns g c =
    let s = g.D.DocReader.document c.args.tables.now in
    let id = c.args.table.now in
    let x = g.X.Lets.lets c.args.ctx.now id in
    any_end (λ (d : ColDef). x.column d.id && x.cell (Some d.id) (g.W.RowReader.told c.args.row.now)) (grid_at s id).columns c.loop-column.index c.loop-column.invariant
    (column_past s id c.loop-column.index c.in_default.ensures.told)
