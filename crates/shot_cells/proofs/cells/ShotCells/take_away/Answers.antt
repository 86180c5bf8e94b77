use Rattle.shot_cells.proofs.SeenLemmas.{seen_each}
use Rattle.shot_cells.proofs.cells.ShotCells.take_away.Goals as goal

pub returns-clause-seen : goal.returns-clause-seen
returns-clause-seen c = seen_each c.args.self.now.tables c.take_places.new.tables c.args.cells.now c.take_places.ensures
