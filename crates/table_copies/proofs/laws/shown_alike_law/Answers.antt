use Rattle.table_copies.proofs.AlikeLemmas.{shown_alike}
use Rattle.table_copies.proofs.laws.shown_alike_law.Goals as goal

pub returns : goal.returns
returns c = shown_alike c.part_made_law.ensures
