use Rattle.acl_rules.specs.declared.decision.Ctx.{Ctx}
use Rattle.rule_contexts.specs.Context.{context}
use Rattle.context_changes.specs.Known.{user_in}
use Rattle.context_changes.proofs.ToldLemmas.{one_more}
use Rattle.context_changes.proofs.known.made_anew.Goals as goal

pub loop-ctx-preserved : goal.loop-ctx-preserved
loop-ctx-preserved g c =
    let f : Ctx → Ctx = λ x. context (user_in x) (g.D.DocReader.document c.args.doc.now) in
    one_more f c.args.contexts.now c.loop-ctx.ctx-index c.ctx-item.result c.loop-ctx.made.items c.push.new.self.items c.in_ok-context_with.field-0
    c.loop-ctx-test.true c.ctx-item.is c.loop-ctx.invariant c.in_ok-context_with.ensures.ok c.in_ok-push.ensures.items
