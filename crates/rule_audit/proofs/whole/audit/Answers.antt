use Rattle.std.proofs.Common.{◌≡◌, ap, ◌∙◌}
use Rattle.std.proofs.lemmas.Result.{IfOk-weaker}
use Rattle.acl_reading.specs.RulesLet.{rules_let}
use Rattle.censored_view.specs.View.{view}
use Rattle.rule_audit.specs.Closed.{audit}
use Rattle.rule_audit.proofs.RowlessLemmas.{rowless}
use Rattle.rule_audit.proofs.whole.audit.Goals as goal

pub returns : goal.returns
returns g c =
    let x = c.args.ctx.now in
    let seen = view (rules_let x) (g.D.DocReader.document c.args.tables.now) in
    IfOk-weaker c.audit_of.result (λ a. a ≡ audit x c.in_ok-shown.shown.tables) (λ a. a ≡ audit x seen)
    (λ a h. h ∙ ap (λ v. audit x v) c.in_ok-shown.ensures.tables ∙ rowless x seen) c.audit_of.ensures
