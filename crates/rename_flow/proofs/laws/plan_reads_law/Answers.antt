use Rattle.rename_flow.proofs.PlanReads.{plan_same}
use Rattle.rename_flow.proofs.laws.plan_reads_law.Goals as goal

pub returns : goal.returns
returns c = plan_same
