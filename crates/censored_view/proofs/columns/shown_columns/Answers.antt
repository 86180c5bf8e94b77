use Rattle.doc_readers.specs.Parts.{grid_at}
use Rattle.doc_readers.proofs.ColumnLemmas.{column_past, column_read}
use Rattle.censored_view.proofs.ColumnWalk.{column_new, columns_end, columns_next, distinct_columns}
use Rattle.censored_view.proofs.columns.shown_columns.Goals as goal

pub put_shown-requires : goal.put_shown-requires
put_shown-requires g c =
    let s = g.D.DocReader.document c.args.tables.now in
    let id = c.args.table.now in
    record {
      new = column_new (g.X.Lets.lets c.args.ctx.now id) (grid_at s id).columns c.loop-column.index c.in-Some.column.now (distinct_columns s c.requires id)
          (column_read s id c.loop-column.index c.in-Some.column.now c.in-Some.ensures.told) c.loop-column.shown.items c.loop-column.invariant;
    }

pub loop-column-preserved : goal.loop-column-preserved
loop-column-preserved g c =
    let s = g.D.DocReader.document c.args.tables.now in
    let id = c.args.table.now in
    columns_next (g.X.Lets.lets c.args.ctx.now id) (grid_at s id).columns c.loop-column.index c.in-Some.column.now (distinct_columns s c.requires id)
    (column_read s id c.loop-column.index c.in-Some.column.now c.in-Some.ensures.told) c.loop-column.shown.items c.put_shown.new.columns.items c.loop-column.invariant c.in_ok-put_shown.ensures.placed

pub returns : goal.returns
returns g c =
    let s = g.D.DocReader.document c.args.tables.now in
    let id = c.args.table.now in
    columns_end (g.X.Lets.lets c.args.ctx.now id) (grid_at s id).columns c.loop-column.index c.loop-column.shown.items
    (column_past s id c.loop-column.index c.in_default.ensures.told) c.loop-column.invariant
