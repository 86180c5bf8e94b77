use Rattle.std.proofs.Common.{◌≡◌, map, take}
use Rattle.dep_graph.specs.Named.{source_named, sources_told}
use Rattle.dep_graph.proofs.named.named_reads.Given as goal

-- what was passed is told
abbrev pub invariant-loop-read : goal.invariant-loop-read
invariant-loop-read l = map source_named l.told.items ≡ sources_told l.names (take l.read-index l.reads)
