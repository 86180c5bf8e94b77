use Rattle.recalc.proofs.WatchedCells.{watched}
use Rattle.recalc.proofs.laws.watched_law.Goals as goal

pub returns : goal.returns
returns c = watched
