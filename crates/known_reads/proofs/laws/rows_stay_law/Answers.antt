use Rattle.known_reads.proofs.MovedLemmas.{rows_stay}
use Rattle.known_reads.proofs.laws.rows_stay_law.Goals as goal

pub returns : goal.returns
returns c = rows_stay
