use Rattle.std.proofs.Common.{◌≡◌, filter, map, take}
use Rattle.doc_model.specs.declared.view.ViewCol.{ViewCol}
use Rattle.rule_audit.specs.Open.{is_open}
use Rattle.rule_audit.proofs.opening.open_columns.Given as goal

-- those of the columns so far
abbrev pub invariant-loop-column : goal.invariant-loop-column
invariant-loop-column l =
    map (λ c. c.now) l.opened.items ≡ filter (λ (d : ViewCol). is_open l.ctx l.table d.id) (take l.column-index l.columns)
