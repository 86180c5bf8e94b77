use Rattle.std.proofs.Common.{Bool, false, not, None, Some, ap, ◌∙◌}
use Rattle.std.proofs.lemmas.Bool.Decides.{same_from_decides}
use Rattle.doc_model.specs.Same.{same_column}
use Rattle.doc_model.proofs.SameLaws.{same_column-Decides}
use Rattle.plain_view.proofs.columns.differs.Goals as goal

pub returns-in-Some : goal.returns-in-Some
returns-in-Some c =
    let old = c.in-Some.old.now in
    let column = c.args.column.now in
    ap not (same_from_decides c.is_same_column.result (same_column old column) c.is_same_column.ensures (same_column-Decides old column))
    ∙ ap (λ o. elim o as (λ _. Bool) [ None ↦ false | Some e ↦ not (same_column e column) ]) c.in-Some.ensures
