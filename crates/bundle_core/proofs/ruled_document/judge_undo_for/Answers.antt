use Rattle.std.proofs.Common.{◌≡◌, Some, subst, IfOk, ◌∙◌}
use Rattle.acl_rules.specs.declared.decision.Ctx.{Ctx}
use Rattle.rule_contexts.specs.Context.{context}
use Rattle.context_changes.proofs.KnownLemmas.{own_context}
use Rattle.undo_bundles.specs.BundleLog.{undo_of}
use Rattle.bundle_judge.specs.JudgedBundles.{IsJudgedBundle}
use Rattle.bundle_judge.specs.Undo.{judge_own_undo}
use Rattle.bundle_core.proofs.ruled_document.judge_undo_for.Goals as goal

pub judge_own_undo-requires-clause-in_force : goal.judge_own_undo-requires-clause-in_force
judge_own_undo-requires-clause-in_force g c =
    own_context c.args.user.now (g.D.DocReader.document c.args.doc.now) c.context.result.now (c.context.ensures ∙ c.in_ok-found.ensures)

pub returns-clause-judged : goal.returns-clause-judged
returns-clause-judged g c =
    let s = g.D.DocReader.document c.args.doc.now in
    let x = c.context.result.now in
    let log = undo_of c.args.log.now.log c.args.number in
    let P : Ctx → Type 0 = λ y. IfOk c.judge_own_undo.result (λ r. IsJudgedBundle (judge_own_undo y.user.user log s) (Some c.args.number) s r.0) in
    let own : x ≡ context c.args.user.now s = c.context.ensures ∙ c.in_ok-found.ensures in
    subst P own c.judge_own_undo.ensures.judged
