use Rattle.undo_bundles.proofs.LogLaws.{note_law}
use Rattle.undo_bundles.proofs.laws.note_law.Goals as goal

pub returns : goal.returns
returns c = note_law
