use Rattle.std.proofs.Common.{cond, Some, sym, ap, ◌∙◌}
use Rattle.std.specs.Str.{bytes_eq}
use Rattle.doc_model.specs.declared.column.CellColumn.{CellColumn}
use Rattle.view_patch.proofs.GivenIndexes.{last_more}
use Rattle.view_patch.proofs.given.named_index.Goals as goal
use Rattle.view_patch.proofs.given.named_index.Goals.{then-has_id, else-has_id}

pub loop-index-preserved : goal.loop-index-preserved
loop-index-preserved c =
    let column = c.index-columns-index.result in
    let i = c.loop-index.index in
    let found = c.loop-index.found in
    last_more (λ (k : CellColumn). bytes_eq k.id c.args.id.now) c.args.columns.now i column found c.if-has_id.found
    c.loop-index-test.true c.index-columns-index.is c.loop-index.invariant
    (elim c.if-has_id.branch [
      | then-has_id w ↦ w.found-is ∙ ap (λ b. cond b (Some i) found) (sym w.if-has_id.true ∙ c.has_id.ensures)
      | else-has_id w ↦ w.found-is ∙ ap (λ b. cond b (Some i) found) (sym w.if-has_id.false ∙ c.has_id.ensures)
    ])
