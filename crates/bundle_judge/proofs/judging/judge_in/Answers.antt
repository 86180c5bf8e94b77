use Rattle.std.proofs.Common.{None, IfOk, not, subst, sym, ap, ◌∙◌}
use Rattle.acl_rules.specs.declared.decision.Ctx.{Ctx}
use Rattle.bundle_judge.specs.Judgement.{judge_from}
use Rattle.bundle_judge.specs.JudgedBundles.{IsJudgedBundle}
use Rattle.bundle_judge.proofs.CarriedLemmas.{not_moved}
use Rattle.bundle_judge.proofs.judging.judge_in.Goals as goal

pub judge_checked-requires-clause-may_carry : goal.judge_checked-requires-clause-may_carry
judge_checked-requires-clause-may_carry g c = λ kept. sym c.ask_renames.ensures ∙ not_moved _ (sym c.in_ok-carried.ensures.kept ∙ kept)

pub returns-clause-judged : goal.returns-clause-judged
returns-clause-judged g c =
    let s = g.D.DocReader.document c.args.doc.now in
    let P : Ctx → Type 0 = λ x. IfOk c.judge_checked.result (λ j. IsJudgedBundle (judge_from x s 0 c.args.requested.now) None s j) in
    subst P c.in_ok-carried.ensures.value c.judge_checked.ensures.judged
