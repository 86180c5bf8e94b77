use Rattle.std.proofs.Common.{◌≡◌, ◌∙◌, ◌++◌, ap, sym, length, arith}
use Rattle.std.proofs.lemmas.List.{append-nil, drop_all}
use Rattle.recalc.specs.InOrder.{in_order}
use Rattle.recalc.proofs.LosingCells.{column_losing, flat, table_columns}
use Rattle.recalc.proofs.watched.push_table.Goals as goal

pub returns : goal.returns
returns g c =
    let v = g.R.DocReader.document c.args.doc.now in
    let a = c.args.action.now in
    let t = c.args.table.now in
    let all : c.loop-column.column-index ≡ length c.deref-column-items.result.now = omega (arith, c.loop-column-test.false, c.loop-column.auto.column-index-end) in
    sym (append-nil c.loop-column.cells.items)
    ∙ ap (λ l. c.loop-column.cells.items ++ flat (column_losing v a t) l) (sym (drop_all c.loop-column.column-index c.deref-column-items.result.now (omega (arith, all))))
    ∙ c.loop-column.invariant
    ∙ ap (λ l. c.args.cells.now.items ++ l)
    (ap (flat (column_losing v a t)) (c.deref-column-items.ensures.value ∙ c.in_ok-columns.ensures ∙ ap in_order (c.deref.ensures.value ∙ c.in_ok-ids.ensures)) ∙ table_columns v a t)
