use Rattle.bundle_core.proofs.DoneBundles.{few_within, new_few}
use Rattle.bundle_core.proofs.UndoLaws.{undo_law}
use Rattle.bundle_core.proofs.laws.undo_law.Goals as goal

pub returns-clause-undoes : goal.returns-clause-undoes
returns-clause-undoes c = undo_law c.seen_law.ensures.allowed c.steps_law.ensures

pub returns-clause-new : goal.returns-clause-new
returns-clause-new c = new_few

pub returns-clause-limits : goal.returns-clause-limits
returns-clause-limits c = few_within
