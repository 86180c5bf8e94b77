use Rattle.std.proofs.Common.{take}
use Rattle.affected_search.specs.Found.{IsMore}
use Rattle.affected_search.proofs.FoundLaws.{reads_in}
use Rattle.affected_search.proofs.search.add_readers.Given as goal

-- the readers of the columns so far are there too
abbrev pub invariant-loop-column : goal.invariant-loop-column
invariant-loop-column l = IsMore l.initial.found l.found (reads_in l.graph.reads l.read (take l.column-index l.columns))
