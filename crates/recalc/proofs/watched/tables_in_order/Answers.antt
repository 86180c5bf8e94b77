use Rattle.std.proofs.Common.{◌∙◌, ap, filter, sym}
use Rattle.recalc.specs.InOrder.{in_order}
use Rattle.recalc.specs.Lost.{tables_cells}
use Rattle.recalc.specs.MayLose.{may_lose}
use Rattle.recalc.proofs.LosingCells.{own_table, tables_enough}
use Rattle.recalc.proofs.watched.tables_in_order.Goals as goal

pub returns-then-is_record : goal.returns-then-is_record
returns-then-is_record g c =
    let v = g.R.DocReader.document c.args.doc.now in
    let a = c.args.action.now in
    ap (λ l. filter (may_lose v a) (tables_cells v l)) c.in_ok-tables.ensures
    ∙ own_table v (c.requires c.if-is_plain.true) a (sym c.is_record.ensures ∙ c.if-is_record.true)

pub returns : goal.returns
returns g c =
    let v = g.R.DocReader.document c.args.doc.now in
    let a = c.args.action.now in
    ap (λ l. filter (may_lose v a) (tables_cells v l)) (c.in_ok-tables-2.ensures ∙ ap in_order (c.deref.ensures.value ∙ c.in_ok-ids.ensures))
    ∙ tables_enough v a
