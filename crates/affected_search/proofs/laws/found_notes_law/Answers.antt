use Rattle.affected_search.proofs.NotedLaws.{found_notes_law}
use Rattle.affected_search.proofs.laws.found_notes_law.Goals as goal

pub returns : goal.returns
returns c = found_notes_law
