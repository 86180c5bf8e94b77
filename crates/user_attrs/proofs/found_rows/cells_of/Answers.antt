use Rattle.doc_readers.specs.Parts.{grid_at}
use Rattle.doc_readers.proofs.ColumnLemmas.{column_past, column_read}
use Rattle.user_attrs.specs.UserInfos.{cell_of, cells_of}
use Rattle.user_attrs.proofs.WalkLemmas.{walk_ends, walk_on}
use Rattle.user_attrs.proofs.found_rows.cells_of.Goals as goal

pub loop-column-preserved : goal.loop-column-preserved
loop-column-preserved g c =
    let s = g.C.DocReader.document c.args.doc.now in
    let id = c.args.table.now in
    walk_on (cell_of s id c.args.row) (grid_at s id).columns c.loop-column.cells c.push.new.self (cells_of s id c.args.row) c.loop-column.index c.in-Some.column.now c.in_ok-cell_of.field-0
    (column_read s id c.loop-column.index c.in-Some.column.now c.in-Some.ensures.told) c.in_ok-cell_of.ensures c.in_ok-push.ensures.ok c.loop-column.invariant

pub returns : goal.returns
returns g c =
    let s = g.C.DocReader.document c.args.doc.now in
    let id = c.args.table.now in
    walk_ends (cell_of s id c.args.row) (grid_at s id).columns c.loop-column.cells (cells_of s id c.args.row) c.loop-column.index
    (column_past s id c.loop-column.index c.in_default.ensures.told) c.loop-column.invariant
