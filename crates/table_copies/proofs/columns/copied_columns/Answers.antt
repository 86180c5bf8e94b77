use Rattle.std.proofs.Common.{map, ap, ◌∙◌}
use Rattle.doc_model.specs.declared.column.ColDef.{ColDef}
use Rattle.doc_model.specs.Column.{column_id}
use Rattle.doc_model.specs.Grid.{cell}
use Rattle.doc_readers.specs.Parts.{grid_at}
use Rattle.doc_readers.proofs.ColumnLemmas.{column_past, column_read}
use Rattle.table_copies.proofs.ColumnLemmas.{columns_next}
use Rattle.censored_view.proofs.PlacedLemmas.{all_taken}
use Rattle.table_copies.proofs.columns.copied_columns.Goals as goal

pub loop-column-preserved : goal.loop-column-preserved
loop-column-preserved g c =
    let s = g.D.DocReader.document c.args.tables.now in
    let id = c.args.table.now in
    columns_next (grid_at s id) c.args.rows.now c.loop-column.index c.in-Some.column.now c.in_ok-copied_column.field-0 c.loop-column.columns.items c.push.new.self.items
    (column_read s id c.loop-column.index c.in-Some.column.now c.in-Some.ensures.told) c.loop-column.invariant c.in_ok-copied_column.ensures.column c.in_ok-copied_column.ensures.cells c.in_ok-push.ensures.items

pub returns-clause-columns : goal.returns-clause-columns
returns-clause-columns g c =
    let s = g.D.DocReader.document c.args.tables.now in
    let id = c.args.table.now in
    c.loop-column.invariant.0 ∙ all_taken (grid_at s id).columns c.loop-column.index (column_past s id c.loop-column.index c.in_default.ensures.told)

pub returns-clause-cells : goal.returns-clause-cells
returns-clause-cells g c =
    let s = g.D.DocReader.document c.args.tables.now in
    let id = c.args.table.now in
    c.loop-column.invariant.1 ∙ ap (map (λ (d : ColDef). map (cell column_id (grid_at s id) (column_id d)) c.args.rows.now))
    (all_taken (grid_at s id).columns c.loop-column.index (column_past s id c.loop-column.index c.in_default.ensures.told))
