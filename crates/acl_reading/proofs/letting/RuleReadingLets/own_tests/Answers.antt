use Rattle.std.proofs.Common.{◌∙◌, None, ap, sym, unwrap_or}
use Rattle.acl_reading.specs.RulesLet.{rules_let}
use Rattle.acl_reading.proofs.LawLemmas.{let_answer}
use Rattle.acl_reading.proofs.letting.RuleReadingLets.own_tests.Goals as goal

pub returns-in_ok-tests-in-ByRules : goal.returns-in_ok-tests-in-ByRules
returns-in_ok-tests-in-ByRules c = λ row.
    let x = c.args.self.now.ctx.now in
    let_answer x c.args.table.now c.args.column.now row (sym c.reach_of.ensures ∙ c.in-ByRules.is)
    ∙ ap (λ o. unwrap_or o ((rules_let x c.args.table.now).cell None row)) (sym (c.in_ok-tests-in-ByRules.ensures row))
