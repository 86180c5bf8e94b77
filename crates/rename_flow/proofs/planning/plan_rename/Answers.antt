use Rattle.rename_flow.proofs.WellFormedLemmas.{plan_well_formed}
use Rattle.rename_flow.proofs.planning.plan_rename.Goals as goal

pub returns-clause-well_formed : goal.returns-clause-well_formed
returns-clause-well_formed c = plan_well_formed c.as_slice.result.now c.in_ok-rename.rename c.plan_of.result c.plan_of.ensures
