use Rattle.affected_search.proofs.NotedLaws.{carried_notes_law}
use Rattle.affected_search.proofs.laws.carried_notes_law.Goals as goal

pub returns : goal.returns
returns c = carried_notes_law
