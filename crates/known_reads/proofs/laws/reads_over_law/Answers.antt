use Rattle.known_reads.proofs.MovedLemmas.{reads_over}
use Rattle.known_reads.proofs.laws.reads_over_law.Goals as goal

pub returns : goal.returns
returns c = reads_over
