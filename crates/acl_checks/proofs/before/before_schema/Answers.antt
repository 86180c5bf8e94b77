use Rattle.acl_checks.proofs.KeptLemmas.{decided_holds}
use Rattle.acl_checks.proofs.before.before_schema.Goals as goal

pub returns : goal.returns
returns c = λ s a same. decided_holds c.args.ctx.now s a _ c.schema_denied.result same c.schema_denied.ensures
