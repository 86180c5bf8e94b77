use Rattle.affected_cells.proofs.KeptLaws.{still_known_right}
use Rattle.affected_cells.proofs.laws.still_known_law.Goals as goal

pub returns : goal.returns
returns c = still_known_right
