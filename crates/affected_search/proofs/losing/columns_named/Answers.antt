use Rattle.std.proofs.Common.{List, ◌+◌, filter, map, refl, arith}
use Rattle.doc_model.specs.declared.column.ColDef.{ColDef}
use Rattle.doc_model.specs.Column.{column_id}
use Rattle.doc_readers.specs.Parts.{grid_at}
use Rattle.doc_readers.proofs.ColumnLemmas.{column_read, column_past}
use Rattle.recalc.proofs.LosingCells.{kept_next, kept_end}
use Rattle.affected_search.specs.Losing.{has_rows}
use Rattle.affected_search.proofs.losing.columns_named.Goals as goal

pub loop-column-preserved : goal.loop-column-preserved
loop-column-preserved g c =
    let s = g.R.DocReader.document c.args.doc.now in
    let id = c.args.table.now in
    let q = has_rows c.args.named.now.graph.now.names c.args.named.now.index.now c.args.named.now.action.now id c.args.written.now in
    kept_next (λ (l : List ColDef). filter q (map column_id l)) (λ (d : ColDef). q d.id) column_id (λ d ds. refl) (grid_at s id).columns c.loop-column.ids.items c.loop-column.place c.loop-column.invariant
    c.push_if.new.names.items (c.loop-column.place + 1) c.in-Some.column.now c.has_rows.result c.in-Some.column.now.id (omega arith) (column_read s id c.loop-column.place c.in-Some.column.now c.in-Some.ensures.told)
    c.has_rows.ensures refl c.in_ok-push_if.ensures

pub returns : goal.returns
returns g c =
    let s = g.R.DocReader.document c.args.doc.now in
    let id = c.args.table.now in
    let q = has_rows c.args.named.now.graph.now.names c.args.named.now.index.now c.args.named.now.action.now id c.args.written.now in
    kept_end (λ (l : List ColDef). filter q (map column_id l)) (λ (d : ColDef). q d.id) column_id (λ d ds. refl) (grid_at s id).columns c.loop-column.ids.items c.loop-column.place c.loop-column.invariant
    refl (column_past s id c.loop-column.place c.in_default.ensures.told)
