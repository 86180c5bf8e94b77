use Rattle.known_reads.proofs.BesideLemmas.{reads_same}
use Rattle.known_reads.proofs.laws.reads_same_law.Goals as goal

pub returns : goal.returns
returns c = reads_same
