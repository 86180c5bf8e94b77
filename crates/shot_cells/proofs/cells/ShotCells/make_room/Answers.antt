use Rattle.shot_cells.proofs.SeenLemmas.{seen_room}
use Rattle.shot_cells.proofs.cells.ShotCells.make_room.Goals as goal

pub returns-clause-seen : goal.returns-clause-seen
returns-clause-seen c = seen_room c.args.self.now.tables c.make_places.new.tables c.make_places.ensures.room
