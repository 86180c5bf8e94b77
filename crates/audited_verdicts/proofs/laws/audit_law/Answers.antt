use Rattle.audited_verdicts.proofs.VerdictLemmas.{verdicts_alike}
use Rattle.audited_verdicts.proofs.laws.audit_law.Goals as goal

pub returns : goal.returns
returns c = verdicts_alike c.records_law.ensures c.schema_actions_law.ensures
