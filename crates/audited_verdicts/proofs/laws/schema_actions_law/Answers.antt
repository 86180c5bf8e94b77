use Rattle.audited_verdicts.proofs.SchemaLemmas.{schema_actions_same}
use Rattle.audited_verdicts.proofs.laws.schema_actions_law.Goals as goal

pub returns : goal.returns
returns c = schema_actions_same c.columns_law.ensures
