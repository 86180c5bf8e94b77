use Rattle.std.proofs.Common.{◌∙◌, ◌+◌, ap, sym, List, drop}
use Rattle.doc_model.specs.declared.view.ViewTable.{ViewTable}
use Rattle.formula_records.proofs.ItemLemmas.{drop_next}
use Rattle.rename_flow.specs.declared.rename_plan.RenamePlan.{RenamePlan}
use Rattle.rename_flow.specs.ColumnParts.{column_parts, table_parts}
use Rattle.rename_flow.specs.Parts.{with_parts}
use Rattle.rename_flow.proofs.PartLemmas.{parts_append}
use Rattle.rename_flow.proofs.column_parts.add_tables.Goals as goal

pub loop-table-preserved : goal.loop-table-preserved
loop-table-preserved c =
    let v = c.args.view.now in
    let r = c.args.rename.now in
    let i = c.loop-table.table-index in
    let rest = column_parts v r (drop (i + 1) v) in
    ap (λ (p : RenamePlan). with_parts p rest) c.in_ok-add_table.ensures
    ∙ sym (parts_append c.loop-table.plan (table_parts v r c.table-item.result) rest)
    ∙ ap (λ (ws : List ViewTable). with_parts c.loop-table.plan (column_parts v r ws)) (sym (drop_next v i c.table-item.result c.loop-table-test.true c.table-item.is))
    ∙ c.loop-table.invariant
