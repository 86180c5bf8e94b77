use Rattle.audited_checks.proofs.CheckLemmas.{added_same, changed_same, removed_same}
use Rattle.audited_checks.proofs.laws.checks_laws.Goals as goal

pub returns : goal.returns
returns c = record { removed = removed_same; changed = changed_same; added = added_same }
