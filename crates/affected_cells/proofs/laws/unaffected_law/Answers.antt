use Rattle.affected_cells.proofs.Unaffected.{unaffected_law}
use Rattle.affected_cells.proofs.laws.unaffected_law.Goals as goal

pub returns : goal.returns
returns c = unaffected_law
