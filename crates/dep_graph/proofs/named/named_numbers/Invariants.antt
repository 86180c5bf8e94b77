use Rattle.std.proofs.Common.{map, take}
use Rattle.dep_graph.specs.Named.{source_named}
use Rattle.dep_graph.specs.Names.{IsGrown}
use Rattle.dep_graph.specs.Sources.{AreNumbers}
use Rattle.dep_graph.proofs.named.named_numbers.Given as goal

-- what was passed is numbered
abbrev pub invariant-loop-named : goal.invariant-loop-named
invariant-loop-named l = AreNumbers l.names (map source_named (take l.named-index l.told)) l.reads.items × IsGrown l.initial.names l.names
