use Rattle.std.proofs.Common.{cond, Some, get_or, eqb, sym, ap, subst, ◌∙◌}
use Rattle.std.proofs.lemmas.Bool.{eq-eqb, ne_eqb}
use Rattle.std.proofs.lemmas.List.{get_or_default}
use Rattle.std.specs.Bool.{OnTrue}
use Rattle.doc_model.specs.Rows.{IsAscending}
use Rattle.view_patch.proofs.GivenIndexes.{last_more, only_index}
use Rattle.view_patch.proofs.given.last_index.Goals as goal
use Rattle.view_patch.proofs.given.last_index.Goals.{then-other-row, else-other-row}

pub returns-then-ascending : goal.returns-then-ascending
returns-then-ascending c = only_index c.row_index.result c.args.rows.now c.args.row (subst (λ b. OnTrue b (IsAscending c.args.rows.now)) c.if-ascending.true c.requires) c.row_index.ensures

pub loop-index-preserved : goal.loop-index-preserved
loop-index-preserved c =
    let rows = c.args.rows.now in
    let i = c.loop-index.index in
    let found = c.loop-index.found in
    last_more (λ q. eqb q c.args.row) rows i (get_or rows i 0) found c.if-other-row.found
    c.loop-index-test.true (get_or_default rows i 0 (get_or rows i 0) c.loop-index-test.true) c.loop-index.invariant
    (elim c.if-other-row.branch [
      | then-other-row w ↦ w.found-is ∙ ap (λ b. cond b (Some i) found) (sym (eq-eqb (get_or rows i 0) c.args.row w.if-other-row.true))
      | else-other-row w ↦ w.found-is ∙ ap (λ b. cond b (Some i) found) (sym (ne_eqb (get_or rows i 0) c.args.row w.if-other-row.false))
    ])
