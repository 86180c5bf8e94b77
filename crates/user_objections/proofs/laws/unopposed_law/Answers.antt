use Rattle.user_objections.proofs.UnopposedLemmas.{is_allowed-unopposed}
use Rattle.user_objections.proofs.laws.unopposed_law.Goals as goal

pub returns : goal.returns
returns c = is_allowed-unopposed
