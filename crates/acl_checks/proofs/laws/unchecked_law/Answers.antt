use Rattle.acl_checks.specs.Unchecked.{UncheckedLaw}
use Rattle.acl_checks.proofs.DenialLemmas.{unchecked}
use Rattle.acl_checks.proofs.laws.unchecked_law.Goals as goal

pub returns : goal.returns
unfolding UncheckedLaw
returns c = unchecked
