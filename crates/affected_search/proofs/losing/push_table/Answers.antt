use Rattle.std.proofs.Common.{◌≡◌, ◌∙◌, ◌++◌, ap, filter, map, sym, length, arith}
use Rattle.std.proofs.lemmas.List.{append-nil, drop_all}
use Rattle.doc_model.specs.Column.{column_id}
use Rattle.doc_readers.specs.Parts.{grid_at}
use Rattle.recalc.specs.InOrder.{in_order}
use Rattle.recalc.proofs.LosingCells.{column_passing, flat}
use Rattle.affected_search.specs.Losing.{has_rows, is_named}
use Rattle.affected_search.proofs.LosingLaws.{table_columns}
use Rattle.affected_search.proofs.losing.push_table.Goals as goal

pub returns : goal.returns
returns g c =
    let v = g.R.DocReader.document c.args.doc.now in
    let names = c.args.named.now.graph.now.names in
    let index = c.args.named.now.index.now in
    let a = c.args.named.now.action.now in
    let t = c.args.table.now in
    let f = column_passing v (is_named names index v a) t in
    let ids = c.deref-2.ensures.value ∙ c.in_ok-ids.ensures ∙ ap (λ w. filter (has_rows names index a t w) (map column_id (grid_at v t).columns)) (c.deref.ensures.value ∙ c.in_ok-written.ensures) in
    let all : c.loop-column.column-index ≡ length c.deref-column-items.result.now = omega (arith, c.loop-column-test.false, c.loop-column.auto.column-index-end) in
    sym (append-nil c.loop-column.cells.items)
    ∙ ap (λ l. c.loop-column.cells.items ++ flat f l) (sym (drop_all c.loop-column.column-index c.deref-column-items.result.now (omega (arith, all))))
    ∙ c.loop-column.invariant
    ∙ ap (λ l. c.args.cells.now.items ++ l)
    (ap (flat f) (c.deref-column-items.ensures.value ∙ c.in_ok-columns.ensures ∙ ap in_order ids) ∙ table_columns names index v a t)
