use Rattle.std.proofs.Common.{length}
use Rattle.doc_model.specs.Document.{Document}
use Rattle.known_reads.specs.Beside.{KnowsWith}
use Rattle.known_reads.specs.Laid.{all_turned}
use Rattle.known_reads.proofs.putting_back.put_all_back.Given as goal

-- what is not recorded yet is laid aside still
abbrev pub invariant-putting : goal.invariant-putting
invariant-putting l = (s : Document) → KnowsWith s l.initial.graph (all_turned l.initial.turned) → KnowsWith s l.graph (all_turned l.turned)

abbrev pub decreases-putting : goal.decreases-putting
decreases-putting l = length l.turned
