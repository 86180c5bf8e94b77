use Rattle.undo_bundles.proofs.InverseLaws.{inverse_steps_law}
use Rattle.undo_bundles.proofs.laws.inverse_steps_law.Goals as goal

pub returns : goal.returns
returns c = inverse_steps_law
