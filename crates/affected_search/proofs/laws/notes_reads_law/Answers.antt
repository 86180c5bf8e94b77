use Rattle.affected_search.proofs.NotedLaws.{notes_reads_law}
use Rattle.affected_search.proofs.laws.notes_reads_law.Goals as goal

pub returns : goal.returns
returns c = notes_reads_law
