use Rattle.std.proofs.Common.{List, map}
use Rattle.acl_formula.specs.RuleRow.{RuleRow}
use Rattle.censored_view.specs.Rows.{rows_at}
use Rattle.action_censor.specs.declared.touched_table.TouchedTable.{TouchedTable}
use Rattle.action_censor.specs.TouchedTables.{kept_row}
use Rattle.action_censor.proofs.PartLemmas.{part_new, parts_next}
use Rattle.action_censor.proofs.following.all_parts.Goals as goal

abbrev rows_before : TouchedTable → List RuleRow
rows_before t = map kept_row t.before.items

pub put_parts-requires-clause-new_before : goal.put_parts-requires-clause-new_before
put_parts-requires-clause-new_before g c =
    part_new (g.X.Lets.lets c.args.ctx.now) (g.D.DocReader.document c.args.tables.now) rows_before c.args.touched.now c.requires.touched.1.distinct
    c.loop-table.table-index c.table-item.result c.loop-table-test.true c.table-item.is c.loop-table.parts.before.items c.loop-table.invariant.0

pub put_parts-requires-clause-new_after : goal.put_parts-requires-clause-new_after
put_parts-requires-clause-new_after g c =
    let s = g.D.DocReader.document c.args.tables.now in
    part_new (g.X.Lets.lets c.args.ctx.now) s (λ (t : TouchedTable). rows_at s t.id t.after.items) c.args.touched.now c.requires.touched.1.distinct
    c.loop-table.table-index c.table-item.result c.loop-table-test.true c.table-item.is c.loop-table.parts.after.items c.loop-table.invariant.1

pub loop-table-preserved : goal.loop-table-preserved
loop-table-preserved g c =
    let s = g.D.DocReader.document c.args.tables.now in (
      parts_next (g.X.Lets.lets c.args.ctx.now) s rows_before c.args.touched.now c.requires.touched.1.distinct
          c.loop-table.table-index c.table-item.result c.loop-table-test.true c.table-item.is c.loop-table.parts.before.items c.loop-table.invariant.0
          c.put_parts.new.parts.before.items c.in_ok-put_parts.ensures.before,
      parts_next (g.X.Lets.lets c.args.ctx.now) s (λ (t : TouchedTable). rows_at s t.id t.after.items) c.args.touched.now c.requires.touched.1.distinct
          c.loop-table.table-index c.table-item.result c.loop-table-test.true c.table-item.is c.loop-table.parts.after.items c.loop-table.invariant.1
          c.put_parts.new.parts.after.items c.in_ok-put_parts.ensures.after,
    )
