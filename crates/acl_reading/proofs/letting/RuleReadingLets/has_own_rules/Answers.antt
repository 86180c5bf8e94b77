use Rattle.std.proofs.Common.{◌∙◌, sym}
use Rattle.acl_reading.proofs.LawLemmas.{let_alone}
use Rattle.acl_reading.proofs.letting.RuleReadingLets.has_own_rules.Goals as goal

pub returns-in-ByRules : goal.returns-in-ByRules
returns-in-ByRules c = λ h. let_alone c.args.self.now.ctx.now c.args.table.now c.args.column.now (sym c.has_own_rules.ensures ∙ h)
