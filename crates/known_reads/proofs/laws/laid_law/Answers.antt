use Rattle.known_reads.proofs.WereLemmas.{laid}
use Rattle.known_reads.proofs.laws.laid_law.Goals as goal

pub returns : goal.returns
returns c = laid
