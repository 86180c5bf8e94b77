use Rattle.std.proofs.Common.{ap, ◌∙◌}
use Rattle.recalc.specs.Evaluated.{filled}
use Rattle.acl_formula.specs.declared.user_info.UserInfo.{UserInfo}
use Rattle.acl_rules.specs.declared.decision.Ctx.{Ctx}
use Rattle.user_attrs.specs.Attributes.{attributes_of}
use Rattle.user_attrs.specs.UserInfos.{user_info}
use Rattle.context_changes.specs.Known.{user_in}
use Rattle.context_changes.proofs.ToldLemmas.{one_more}
use Rattle.context_changes.proofs.renewal.users_now.Goals as goal

pub loop-ctx-preserved : goal.loop-ctx-preserved
loop-ctx-preserved g c =
    let t = g.D.DocReader.document c.args.doc.now in
    let f : Ctx → UserInfo = λ x. user_info (attributes_of t) (user_in x) (filled t) in
    one_more f c.args.contexts.now c.loop-ctx.ctx-index c.ctx-item.result c.loop-ctx.users.items c.push.new.self.items c.in_ok-user_info.field-0
    c.loop-ctx-test.true c.ctx-item.is c.loop-ctx.invariant (c.in_ok-user_info.ensures ∙ ap (λ r. user_info r (user_in c.ctx-item.result) (filled t)) c.requires) c.in_ok-push.ensures.items
