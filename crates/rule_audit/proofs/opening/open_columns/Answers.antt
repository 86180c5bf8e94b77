use Rattle.std.proofs.Common.{map, ap, ◌∙◌}
use Rattle.std.specs.List.{filter}
use Rattle.std.proofs.lemmas.List.{take_all}
use Rattle.doc_model.specs.declared.view.ViewCol.{ViewCol}
use Rattle.rule_audit.specs.Open.{is_open}
use Rattle.rule_audit.proofs.ColumnLemmas.{one_more}
use Rattle.rule_audit.proofs.opening.open_columns.Goals as goal

pub loop-column-preserved : goal.loop-column-preserved
loop-column-preserved c =
    one_more (λ (d : ViewCol). is_open c.args.ctx.now c.args.table.now d.id) c.args.columns.now c.loop-column.column-index c.column-item.result (map (λ c. c.now) c.loop-column.opened.items) (map (λ c. c.now) c.push_open.new.opened.items)
    c.loop-column-test.true c.column-item.is c.loop-column.invariant c.in_ok-push_open.ensures

pub returns : goal.returns
returns c = c.loop-column.invariant ∙ ap (filter (λ (d : ViewCol). is_open c.args.ctx.now c.args.table.now d.id)) (take_all c.loop-column.column-index c.args.columns.now c.loop-column-test.false)
