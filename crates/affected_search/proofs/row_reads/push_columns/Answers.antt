use Rattle.std.proofs.Common.{◌+◌, ◌++◌, ap, ◌∙◌, refl, arith}
use Rattle.doc_model.specs.declared.column.ColDef.{ColDef}
use Rattle.doc_readers.specs.Parts.{grid_at}
use Rattle.doc_readers.proofs.ColumnLemmas.{column_read, column_past}
use Rattle.dep_graph.specs.Sources.{column_in}
use Rattle.affected_search.specs.RowValues.{column_values, columns_values}
use Rattle.affected_search.proofs.RowFlats.{flat_end, flat_next}
use Rattle.affected_search.proofs.row_reads.push_columns.Goals as goal

pub loop-column-preserved : goal.loop-column-preserved
loop-column-preserved g c =
    let s = g.R.DocReader.document c.args.tables.now in
    let t = c.args.table.now in
    let names = c.args.graph.now.names in
    let rows = c.args.rows.now in
    flat_next (columns_values names t (grid_at s t) rows) (λ (d : ColDef). column_values (grid_at s t) (column_in names t d.id) rows d) (λ d ds. refl)
    (grid_at s t).columns c.args.reads.now.items c.loop-column.reads.items c.loop-column.index c.loop-column.invariant
    c.in-Some.column.now (c.loop-column.index + 1) c.push_column.new.reads.items (omega arith) (column_read s t c.loop-column.index c.in-Some.column.now c.in-Some.ensures.told)
    (c.in_ok-push_column.ensures ∙ ap (λ o. c.loop-column.reads.items ++ column_values (grid_at s t) o rows c.in-Some.column.now) c.column_number-number.ensures)

pub returns : goal.returns
returns g c =
    let s = g.R.DocReader.document c.args.tables.now in
    let t = c.args.table.now in
    let names = c.args.graph.now.names in
    let rows = c.args.rows.now in
    flat_end (columns_values names t (grid_at s t) rows) (λ (d : ColDef). column_values (grid_at s t) (column_in names t d.id) rows d) (λ d ds. refl)
    (grid_at s t).columns c.args.reads.now.items c.loop-column.reads.items c.loop-column.index c.loop-column.invariant
    refl (column_past s t c.loop-column.index c.in_default.ensures.told)
