use Rattle.undo_bundles.proofs.LogLaws.{mark_law}
use Rattle.undo_bundles.proofs.laws.mark_law.Goals as goal

pub returns : goal.returns
returns c = mark_law
