use Rattle.std.proofs.Common.{◌≡◌, ◌∙◌, ap}
use Rattle.std.proofs.lemmas.Result.{IfOk-weaker}
use Rattle.rename_marks.specs.declared.column_rename.ColumnRename.{ColumnRename}
use Rattle.rename_flow.specs.declared.rename_plan.RenamePlan.{RenamePlan}
use Rattle.rename_flow.specs.Plan.{plan_of}
use Rattle.rule_contexts.specs.Context.{view}
use Rattle.bundle_core.proofs.RenamingLemmas.{planned_alone}
use Rattle.bundle_core.proofs.dispatch.plan_for.Goals as goal

pub returns-clause-plan : goal.returns-clause-plan
returns-clause-plan g c =
    let s = g.D.DocReader.document c.args.doc.now in
    let r : ColumnRename = record { table = c.args.table.now; old = c.args.column.now; new = c.args.new.now } in
    let same : plan_of c.in_ok-seen.seen.tables r ≡ plan_of (view c.args.user.now s) r =
    ap (λ v. plan_of v r) c.in_ok-seen.ensures ∙ planned_alone c.args.user.now s r c.requires in
    let P : RenamePlan → Type 0 = λ p. p ≡ plan_of c.in_ok-seen.seen.tables r in
    let Q : RenamePlan → Type 0 = λ p. p ≡ plan_of (view c.args.user.now s) r in
    IfOk-weaker c.plan_rename.result P Q (λ p is. is ∙ same) c.plan_rename.ensures.plan
