use Rattle.std.proofs.Common.{◌≡◌, ◌∙◌, ◌++◌, ap, sym, length, arith}
use Rattle.std.proofs.lemmas.List.{append-nil, drop_all}
use Rattle.recalc.specs.InOrder.{in_order}
use Rattle.recalc.proofs.LosingCells.{flat, table_passing}
use Rattle.affected_search.specs.Losing.{is_named}
use Rattle.affected_search.proofs.LosingLaws.{tables_enough}
use Rattle.affected_search.proofs.losing.cells_named.Goals as goal

pub returns : goal.returns
returns g c =
    let v = g.R.DocReader.document c.args.doc.now in
    let names = c.args.named.now.graph.now.names in
    let index = c.args.named.now.index.now in
    let a = c.args.named.now.action.now in
    let f = table_passing v (is_named names index v a) in
    let all : c.loop-table.table-index ≡ length c.deref-table-items.result.now = omega (arith, c.loop-table-test.false, c.loop-table.auto.table-index-end) in
    sym (append-nil c.loop-table.cells.items)
    ∙ ap (λ l. c.loop-table.cells.items ++ flat f l) (sym (drop_all c.loop-table.table-index c.deref-table-items.result.now (omega (arith, all))))
    ∙ c.loop-table.invariant
    ∙ ap (flat f) (c.deref-table-items.ensures.value ∙ c.in_ok-tables.ensures ∙ ap in_order (c.deref.ensures.value ∙ c.in_ok-ids.ensures))
    ∙ tables_enough names index v a
