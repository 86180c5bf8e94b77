use Rattle.affected_cells.proofs.MetAlike.{met_law}
use Rattle.affected_cells.proofs.laws.met_law.Goals as goal

pub returns : goal.returns
returns c = met_law
