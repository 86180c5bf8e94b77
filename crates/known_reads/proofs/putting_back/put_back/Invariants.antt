use Rattle.std.proofs.Common.{List, ◌++◌, length}
use Rattle.dep_graph.specs.Named.{Were}
use Rattle.doc_model.specs.Document.{Document}
use Rattle.known_reads.specs.Beside.{KnowsWith}
use Rattle.known_reads.proofs.putting_back.put_back.Given as goal

-- what is not recorded yet is noted still
abbrev pub invariant-putting : goal.invariant-putting
invariant-putting l = (s : Document) (first : List Were) → KnowsWith s l.initial.graph (first ++ l.initial.were.items) → KnowsWith s l.graph (first ++ l.were.items)

abbrev pub decreases-putting : goal.decreases-putting
decreases-putting l = length l.were.items
