use Rattle.affected_search.proofs.NotedLaws.{set_notes_law}
use Rattle.affected_search.proofs.laws.set_notes_law.Goals as goal

pub returns : goal.returns
returns c = set_notes_law
