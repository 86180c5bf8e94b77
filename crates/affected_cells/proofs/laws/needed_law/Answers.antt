use Rattle.affected_cells.proofs.Needed.{needed_law}
use Rattle.affected_cells.proofs.laws.needed_law.Goals as goal

pub returns : goal.returns
returns c = needed_law
