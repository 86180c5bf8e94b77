use Rattle.affected_cells.proofs.KeptLaws.{update_law}
use Rattle.affected_cells.proofs.actions.update_law.Goals as goal

pub returns : goal.returns
returns c = update_law
