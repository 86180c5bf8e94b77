use Rattle.bundle_core.proofs.RenamingLaws.{resolved_law, unresolved_law}
use Rattle.bundle_core.proofs.laws.renaming_law.Goals as goal

pub returns-clause-unresolved : goal.returns-clause-unresolved
returns-clause-unresolved c = unresolved_law

pub returns-clause-resolved : goal.returns-clause-resolved
returns-clause-resolved c = resolved_law
