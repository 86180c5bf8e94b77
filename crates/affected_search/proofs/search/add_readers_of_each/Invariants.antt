use Rattle.std.proofs.Common.{take}
use Rattle.affected_search.specs.Found.{IsMore}
use Rattle.affected_search.specs.Reached.{reads_one}
use Rattle.affected_search.proofs.search.add_readers_of_each.Given as goal

-- the readers of the reads so far are there too
abbrev pub invariant-loop-read : goal.invariant-loop-read
invariant-loop-read l = IsMore l.initial.found l.found (reads_one l.graph.reads (take l.read-index l.reads))
