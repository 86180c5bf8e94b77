use Rattle.std.proofs.Common.{◌≡◌, ◌∙◌, ◌++◌, ap, sym, length, arith}
use Rattle.std.proofs.lemmas.List.{append-nil, drop_all}
use Rattle.recalc.proofs.LosingCells.{flat, table_losing, tables_flat}
use Rattle.recalc.proofs.watched.watched_cells.Goals as goal

pub returns : goal.returns
returns g c =
    let v = g.R.DocReader.document c.args.doc.now in
    let a = c.args.action.now in
    let all : c.loop-table.table-index ≡ length c.deref-table-items.result.now = omega (arith, c.loop-table-test.false, c.loop-table.auto.table-index-end) in
    sym (append-nil c.loop-table.cells.items)
    ∙ ap (λ l. c.loop-table.cells.items ++ flat (table_losing v a) l) (sym (drop_all c.loop-table.table-index c.deref-table-items.result.now (omega (arith, all))))
    ∙ c.loop-table.invariant
    ∙ ap (flat (table_losing v a)) c.deref-table-items.ensures.value
    ∙ sym (tables_flat v a c.in_ok-tables.tables.items) ∙ c.in_ok-tables.ensures
