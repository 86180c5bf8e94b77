use Rattle.affected_cells.proofs.Unaffected.{unaffected_notes_law}
use Rattle.affected_cells.proofs.laws.unaffected_notes_law.Goals as goal

pub returns : goal.returns
returns c = unaffected_notes_law
