use Rattle.table_copies.proofs.AlikeLemmas.{nothing_shown}
use Rattle.table_copies.proofs.laws.nothing_shown_law.Goals as goal

pub returns : goal.returns
returns c = nothing_shown c.part_made_law.ensures
