use Rattle.std.proofs.Common.{refl, subst, sym}
use Rattle.std.proofs.lemmas.Bool.{and_parts}
use Rattle.std.specs.List.{AllByRecursion}
use Rattle.std.specs.Str.{bytes_eq}
use Rattle.doc_model.specs.Rows.{has}
use Rattle.doc_readers.specs.Parts.{grid_at}
use Rattle.doc_readers.proofs.ColumnLemmas.{column_past, column_read}
use Rattle.recalc.proofs.Progress.{each_all, each_next}
use Rattle.recalc.specs.Cells.{cell_of}
use Rattle.affected_values.specs.Carried.{HasCellsOfColumn}
use Rattle.affected_values.proofs.RowCellLemmas.{cells_there, nothing_there, only_next}
use Rattle.affected_values.proofs.row_cells.push_row_cells.Goals as goal

pub loop-column-preserved : goal.loop-column-preserved
loop-column-preserved g c =
    let s = g.D.DocReader.document c.args.tables.now in
    let t = c.args.table.now in
    record {
      stays = λ d h. c.in_ok-push_where.ensures.stays d (c.loop-column.invariant.stays d h);
      each = each_next (HasCellsOfColumn t c.args.rows.now c.loop-column.cells.items) (HasCellsOfColumn t c.args.rows.now c.push_where.new.cells.items) (grid_at s t).columns c.loop-column.index _ c.in-Some.column.now
          (λ d h is r here. c.in_ok-push_where.ensures.stays (cell_of t d.id r) (h is r here)) refl
          (column_read s t c.loop-column.index c.in-Some.column.now c.in-Some.ensures.told) c.in_ok-push_where.ensures.pushed c.loop-column.invariant.each;
      only = only_next (λ d. bytes_eq d.table t) c.args.cells.now.items c.loop-column.cells.items c.push_where.new.cells.items c.loop-column.invariant.only
          (λ d is isnt. (and_parts (bytes_eq d.table t) (bytes_eq d.column c.in-Some.column.now.id) (c.in_ok-push_where.ensures.only d is isnt)).0);
      rows = only_next (λ d. has c.args.rows.now d.row) c.args.cells.now.items c.loop-column.cells.items c.push_where.new.cells.items c.loop-column.invariant.rows c.in_ok-push_where.ensures.rows;
    }

pub returns-clause-pushed : goal.returns-clause-pushed
returns-clause-pushed g c =
    let s = g.D.DocReader.document c.args.tables.now in
    let t = c.args.table.now in
    let cells = c.loop-column.cells.items in
    cells_there s t c.args.rows.now cells
    (each_all (HasCellsOfColumn t c.args.rows.now cells) (grid_at s t).columns c.loop-column.index
    (nothing_there (grid_at s t).columns c.loop-column.index (column_past s t c.loop-column.index c.in_default.ensures.told)) c.loop-column.invariant.each)

pub returns-clause-alike : goal.returns-clause-alike
returns-clause-alike g c =
    let s = g.D.DocReader.document c.args.tables.now in
    let t = c.args.table.now in
    let cells = c.loop-column.cells.items in
    λ x same. cells_there x t c.args.rows.now cells
    (subst (AllByRecursion (HasCellsOfColumn t c.args.rows.now cells)) (sym same)
    (each_all (HasCellsOfColumn t c.args.rows.now cells) (grid_at s t).columns c.loop-column.index
    (nothing_there (grid_at s t).columns c.loop-column.index (column_past s t c.loop-column.index c.in_default.ensures.told)) c.loop-column.invariant.each))
